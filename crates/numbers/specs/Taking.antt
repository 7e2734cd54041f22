-- Taking K units from sizes in an order, each size used up before the next is touched: what is left in all is the sum less K.
use Rattle.std.specs.Prelude.{◌≡◌, Bool, true, false, not, ◌&&◌, cond, ℕ, zero, suc, ◌+◌, ◌-◌, ◌≤◌, ◌<◌, eqb}
use Rattle.std.proofs.Math.Path.{refl}
use Rattle.std.proofs.Common.{sym, ap, ◌∙◌, true≢false, arith, eq-eqb, ne_eqb}
use Rattle.std.proofs.Math.Decide.{ℕ_discrete}
use Rattle.numbers.specs.Budget.{sum_n, sum_n_where, sum_n_le, sum_n-add, sum_n_at, sum_n_ext, sum_n_where_ext}
use Rattle.numbers.specs.Order.{Order}

-- the indices that P chooses, parted by a test
parted : (p b : Bool) (x : ℕ) → cond p x 0 ≡ cond (p && b) x 0 + cond (p && not b) x 0
parted true true x = omega arith
parted true false x = omega arith
parted false true x = refl
parted false false x = refl

module _ (a : ℕ → ℕ) (b : ℕ → ℕ → Bool) (o : Order b) where
  -- the sizes that are taken from before s
  abbrev pub before : ℕ → (ℕ → Bool) → ℕ → ℕ
  before n P s = sum_n_where n (λ t. P t && b t s) a

  -- what is left of s
  abbrev pub left_at : ℕ → ℕ → (ℕ → Bool) → ℕ → ℕ
  left_at K n P s = a s - (K - before n P s)

  -- ---- a size that goes before another is used up first

  one_more : (P : ℕ → Bool) (s u t : ℕ) → P s ≡ true → b s u ≡ true
      → cond (P t && b t s) (a t) 0 + cond (eqb t s) (a t) 0 ≤ cond (P t && b t u) (a t) 0
  one_more P s u t hs h = by (ℕ_discrete t s)
    where
      past : (p : Bool) (x y : Bool) → (x ≡ true → y ≡ true) → cond (p && x) (a t) 0 + 0 ≤ cond (p && y) (a t) 0
      past true true y e = rw (e refl) (omega arith)
      past true false y e = omega arith
      past false x y e = omega arith

      by : Dec (t ≡ s) → cond (P t && b t s) (a t) 0 + cond (eqb t s) (a t) 0 ≤ cond (P t && b t u) (a t) 0
      by (yes e) = rw (e, o.never s, eq-eqb s s refl, hs, h) (omega arith)
      by (no e) = rw (ne_eqb t s e) (past (P t) (b t s) (b t u) (λ q. o.trans t s u q h))

  pub before_more : (n : ℕ) (P : ℕ → Bool) (s u : ℕ) → s < n → P s ≡ true → b s u ≡ true → before n P s + a s ≤ before n P u
  before_more n P s u l hs h =
      let own : ◌≡◌ {A = ℕ} (cond (eqb s s) (a s) 0) (a s) = rw (eq-eqb s s refl) in
      omega (
        arith,
        sum_n-add n (λ t. cond (P t && b t s) (a t) 0) (λ t. cond (eqb t s) (a t) 0),
        sum_n_le n (λ t. cond (P t && b t s) (a t) 0 + cond (eqb t s) (a t) 0) (λ t. cond (P t && b t u) (a t) 0) (λ t p. one_more P s u t hs h),
        sum_n_at n (λ t. cond (eqb t s) (a t) 0) s l,
      )

  -- ---- what is left in all

  -- the chosen indices below n that go before n, and those that go after it
  abbrev earlier : ℕ → (ℕ → Bool) → ℕ → Bool
  earlier n P t = P t && b t n

  abbrev later : ℕ → (ℕ → Bool) → ℕ → Bool
  later n P t = P t && b n t

  split : (n : ℕ) (P : ℕ → Bool) (f : ℕ → ℕ) → sum_n_where n P f ≡ sum_n_where n (earlier n P) f + sum_n_where n (later n P) f
  split n P f =
      sum_n_ext n (λ t. cond (P t) (f t) 0) (λ t. cond (earlier n P t) (f t) 0 + cond (later n P t) (f t) 0)
      (λ t h. parted (P t) (b t n) (f t) ∙ ap (λ (y : Bool). cond (P t && b t n) (f t) 0 + cond (P t && y) (f t) 0) (sym (o.other t n (λ e. omega arith))))
      ∙ sum_n-add n (λ t. cond (earlier n P t) (f t) 0) (λ t. cond (later n P t) (f t) 0)

  -- before a size that goes before n stands nothing that goes after n
  before-earlier : (n : ℕ) (P : ℕ → Bool) (s : ℕ) → b s n ≡ true → before n P s ≡ before n (earlier n P) s
  before-earlier n P s h =
      sum_n_ext n (λ t. cond (P t && b t s) (a t) 0) (λ t. cond ((P t && b t n) && b t s) (a t) 0)
      (λ t p. ap (λ (y : Bool). cond y (a t) 0) (by (P t) (b t s) (b t n) (λ q. o.trans t s n q h)))
    where
      by : (p x y : Bool) → (x ≡ true → y ≡ true) → (p && x) ≡ ((p && y) && x)
      by true true y e = sym (rw (e refl))
      by true false true e = refl
      by true false false e = refl
      by false x y e = refl

  -- before a size that goes after n stands all that goes before n
  before-later : (n : ℕ) (P : ℕ → Bool) (s : ℕ) → b n s ≡ true → before n P s ≡ sum_n_where n (earlier n P) a + before n (later n P) s
  before-later n P s h =
      sum_n_ext n (λ t. cond (P t && b t s) (a t) 0) (λ t. cond (P t && b t n) (a t) 0 + cond ((P t && b n t) && b t s) (a t) 0)
      (λ t p.
      by (P t) (b t s) (b t n) (b n t) (o.other t n (λ e. omega arith)) (λ q. o.trans t n s q h) (a t))
      ∙ sum_n-add n (λ t. cond (P t && b t n) (a t) 0) (λ t. cond ((P t && b n t) && b t s) (a t) 0)
    where
      by : (p x y z : Bool) → z ≡ not y → (y ≡ true → x ≡ true) → (u : ℕ) → cond (p && x) u 0 ≡ cond (p && y) u 0 + cond ((p && z) && x) u 0
      by true x true z e f u = rw (e, f refl) (omega arith)
      by true true false z e f u = rw e (omega arith)
      by true false false z e f u = rw e (omega arith)
      by false x y z e f u = refl

  -- one index more
  before-suc : (n : ℕ) (P : ℕ → Bool) (s : ℕ) → before (suc n) P s ≡ before n P s + cond (P n && b n s) (a n) 0
  unfolding sum_n
  before-suc n P s = refl

  sum-suc : (n : ℕ) (P : ℕ → Bool) (f : ℕ → ℕ) → sum_n_where (suc n) P f ≡ sum_n_where n P f + cond (P n) (f n) 0
  unfolding sum_n
  sum-suc n P f = refl

  sum-none : (P : ℕ → Bool) (f : ℕ → ℕ) → sum_n_where 0 P f ≡ 0
  unfolding sum_n
  sum-none P f = refl

  both_true : (p q : Bool) → (p && q) ≡ true → q ≡ true
  both_true true q e = e
  both_true false q e = absurd (true≢false (sym e))

  pub left-sum : (n : ℕ) (P : ℕ → Bool) (K : ℕ) → sum_n_where n P (left_at K n P) ≡ sum_n_where n P a - K
  left-sum zero P K = omega (arith, sum-none P (left_at K 0 P), sum-none P a)
  left-sum (suc n) P K = by (P n) refl (λ Q k. left-sum n Q k)
    where
      by : (p : Bool) → P n ≡ p → ((Q : ℕ → Bool) (k : ℕ) → sum_n_where n Q (left_at k n Q) ≡ sum_n_where n Q a - k) → sum_n_where (suc n) P (left_at K (suc n) P) ≡ sum_n_where (suc n) P a - K
      by false e ih =
          let same : sum_n_where n P (left_at K (suc n) P) ≡ sum_n_where n P (left_at K n P) =
          sum_n_where_ext n P (left_at K (suc n) P) (left_at K n P)
          (λ s h q. ap (λ (y : ℕ). a s - (K - y)) (before-suc n P s ∙ ap (λ (y : Bool). before n P s + cond (y && b n s) (a n) 0) e ∙ omega arith))
          in
          let x : ◌≡◌ {A = ℕ} (cond (P n) (left_at K (suc n) P n) 0) 0 = rw e in
          let y : ◌≡◌ {A = ℕ} (cond (P n) (a n) 0) 0 = rw e in
          omega (arith, sum-suc n P (left_at K (suc n) P), sum-suc n P a, ih P K)
      by true e ih =
          let A : ℕ = sum_n_where n (earlier n P) a in
          let front : sum_n_where n (earlier n P) (left_at K (suc n) P) ≡ A - K =
          sum_n_where_ext n (earlier n P) (left_at K (suc n) P) (left_at K n (earlier n P))
          (λ s h q.
          let r = both_true (P s) (b s n) q in
          ap (λ (y : ℕ). a s - (K - y))
          (before-suc n P s
          ∙ ap (λ (y : Bool). before n P s + cond (P n && y) (a n) 0) (o.other s n (λ z. omega arith) ∙ ap not r)
          ∙ ap (λ (y : Bool). before n P s + cond (y && false) (a n) 0) e
          ∙ omega (arith, before-earlier n P s r)))
          ∙ ih (earlier n P) K
          in
          let back : sum_n_where n (later n P) (left_at K (suc n) P) ≡ sum_n_where n (later n P) a - (K - (A + a n)) =
          sum_n_where_ext n (later n P) (left_at K (suc n) P) (left_at (K - (A + a n)) n (later n P))
          (λ s h q.
          let r = both_true (P s) (b n s) q in
          let w : before (suc n) P s ≡ A + before n (later n P) s + a n =
          before-suc n P s ∙ ap (λ (y : Bool). before n P s + cond (P n && y) (a n) 0) r
          ∙ ap (λ (y : Bool). before n P s + cond (y && true) (a n) 0) e
          ∙ ap (λ (y : ℕ). y + a n) (before-later n P s r)
          in
          omega (arith, w))
          ∙ ih (later n P) (K - (A + a n))
          in
          let own : before (suc n) P n ≡ A =
          before-suc n P n ∙ ap (λ (y : Bool). before n P n + cond (P n && y) (a n) 0) (o.never n)
          ∙ ap (λ (y : Bool). before n P n + cond (y && false) (a n) 0) e ∙ omega arith
          in
          let x : ◌≡◌ {A = ℕ} (cond (P n) (left_at K (suc n) P n) 0) (a n - (K - A)) = rw (e, own) in
          let y : ◌≡◌ {A = ℕ} (cond (P n) (a n) 0) (a n) = rw e in
          omega (arith, sum-suc n P (left_at K (suc n) P), sum-suc n P a, split n P (left_at K (suc n) P), split n P a, front, back)
