-- A table that a loop fills from the front: after k turns the first k entries are those of f, the others as they were.
use Rattle.std.specs.Prelude.{◌≡◌, cond, List, ◌≢◌, ℕ, ◌+◌, ◌≤◌, ◌<◌, ltb, length, get_or, set}
use Rattle.std.proofs.Common.{sym, ◌∙◌, arith, lt-ltb, le-ltb, ext_get_or}
use Rattle.std.proofs.Math.Decide.{dec_lt}
use Rattle.numbers.specs.Table.{tabulate, length-tabulate, get_or-tabulate, tabulate_ext, tabulate-set}

module _ {A : Type 0} where
  abbrev pub filled : ℕ → (ℕ → A) → (ℕ → A) → ℕ → List A
  filled n f g k = tabulate n (λ i. cond (ltb i k) (f i) (g i))

  -- a list is the table of its entries
  pub tabulate-get_or : (l : List A) (n : ℕ) (d : A) → length l ≡ n → l ≡ tabulate n (λ i. get_or l i d)
  tabulate-get_or l n d e =
      ext_get_or d l (tabulate n (λ i. get_or l i d)) (e ∙ sym (length-tabulate n (λ i. get_or l i d)))
      (λ i h. sym (get_or-tabulate n (λ i. get_or l i d) i d (omega arith)))

  module _ (n : ℕ) (f g : ℕ → A) where
    pub filled_none : tabulate n g ≡ filled n f g 0
    filled_none = tabulate_ext n g (λ i. cond (ltb i 0) (f i) (g i)) (λ i h. sym (rw (le-ltb i 0 (omega arith))))

    -- what is not stored yet is as it was
    pub filled_at : (k : ℕ) (d : A) → k < n → get_or (filled n f g k) k d ≡ g k
    filled_at k d h = get_or-tabulate n (λ i. cond (ltb i k) (f i) (g i)) k d h ∙ rw (le-ltb k k (omega arith))

    pub filled_more : (k : ℕ) → k < n → set (filled n f g k) k (f k) ≡ filled n f g (k + 1)
    filled_more k h =
        tabulate-set n (λ i. cond (ltb i k) (f i) (g i)) (λ i. cond (ltb i (k + 1)) (f i) (g i)) k (f k) h
        (sym (rw (lt-ltb k (k + 1) (omega arith))))
        (λ i p q. by i q (dec_lt i k))
      where
        by : (i : ℕ) → i ≢ k → Dec (i < k) → cond (ltb i k) (f i) (g i) ≡ cond (ltb i (k + 1)) (f i) (g i)
        by i q (yes l) = rw (lt-ltb i k l, lt-ltb i (k + 1) (omega arith))
        by i q (no l) = let m : k + 1 ≤ i = omega arith in rw (le-ltb i k (omega arith), le-ltb i (k + 1) m)

    pub filled_all : (k : ℕ) → n ≤ k → filled n f g k ≡ tabulate n f
    filled_all k h = tabulate_ext n (λ i. cond (ltb i k) (f i) (g i)) f (λ i p. rw (lt-ltb i k (omega arith)))

    -- a stretch in which f and g agree counts as filled
    pub filled_kept : (k m : ℕ) → k ≤ m → ((i : ℕ) → k ≤ i → i < m → f i ≡ g i) → filled n f g k ≡ filled n f g m
    filled_kept k m h e =
        tabulate_ext n (λ i. cond (ltb i k) (f i) (g i)) (λ i. cond (ltb i m) (f i) (g i)) (λ i p. by i (dec_lt i k) (dec_lt i m))
      where
        by : (i : ℕ) → Dec (i < k) → Dec (i < m) → cond (ltb i k) (f i) (g i) ≡ cond (ltb i m) (f i) (g i)
        by i (yes l) q = rw (lt-ltb i k l, lt-ltb i m (omega arith))
        by i (no l) (yes q) = rw (le-ltb i k (omega arith), lt-ltb i m q) (sym (e i (omega arith) q))
        by i (no l) (no q) = rw (le-ltb i k (omega arith), le-ltb i m (omega arith))
