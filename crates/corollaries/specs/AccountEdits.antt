-- Another batch x in the place of account j's (U1): the lengths still add up, x stands there, and every other account's batch is the same.
use Rattle.std.specs.Prelude.{◌≡◌, refl, ◌≢◌, List, ◌++◌, ℕ, zero, suc, ◌+◌, ◌-◌, ◌≤◌, ◌<◌, length, take, drop, get_or, set}
use Rattle.std.proofs.Common.{sym, ap, ◌∙◌, append_assoc, arith, length-append, length-drop, length-set, take-append-drop, take_at, drop_at, drop-drop, length-take-le, get_or-set_same, get_or-set_other}
use Rattle.std.proofs.Math.Decide.{le_ind, dec_lt}
use Rattle.std.proofs.lemmas.List.{take-append-le, drop-append-le}
use Rattle.std.proofs.Math.Seq.{drop-append-add}
use Rattle.model.specs.ManyAccounts.{words_before, batch_of}
use Rattle.model.specs.OtherAccounts.{edited_batches, edited_lengths}
use Rattle.model.proofs.ManyAccounts.{AccountsRows, before_mono}

before-suc : (ns : List ℕ) (i : ℕ) → words_before ns (suc i) ≡ words_before ns i + get_or ns i 0
unfolding words_before
before-suc ns i = refl

-- another length at j
before-set : (ns : List ℕ) (j v i : ℕ) → i ≤ j → words_before (set ns j v) i ≡ words_before ns i
unfolding words_before
before-set ns j v zero h = refl
before-set ns j v (suc i) h = λ a. before-set ns j v i (omega arith) a + get_or-set_other ns j i v 0 (λ e. absurd (omega arith)) a

after-set : (ns : List ℕ) (j v i : ℕ) → j < length ns → j < i → words_before (set ns j v) i + get_or ns j 0 ≡ words_before ns i + v
after-set ns j v i l h = le_ind (λ (n : ℕ). words_before (set ns j v) n + get_or ns j 0 ≡ words_before ns n + v) first more i h
  where
    first : words_before (set ns j v) (suc j) + get_or ns j 0 ≡ words_before ns (suc j) + v
    first = omega (arith, before-suc (set ns j v) j, before-suc ns j, before-set ns j v j (omega arith), get_or-set_same ns j v 0 l)

    more : (n : ℕ) → suc j ≤ n → words_before (set ns j v) n + get_or ns j 0 ≡ words_before ns n + v → words_before (set ns j v) (suc n) + get_or ns j 0 ≡ words_before ns (suc n) + v
    more n k e = omega (arith, before-suc (set ns j v) n, before-suc ns n, e, get_or-set_other ns j n v 0 (λ q. absurd (omega arith)))

-- a part that lies before place t does not see what is behind it
part_before : (l r : List ℕ) (t s n : ℕ) → s + n ≤ t → t ≤ length l → take n (drop s (take t l ++ r)) ≡ take n (drop s (take t l))
part_before l r t s n h k =
    let e = length-take-le t l k in
    ap (take n) (drop-append-le s (take t l) r (omega arith)) ∙ take-append-le n (drop s (take t l)) r (omega (arith, length-drop s (take t l)))

module _ (bs ns x : List ℕ) (entries j : ℕ) (l : j < length ns) (ok : AccountsRows bs ns entries) where
  abbrev bs' : List ℕ
  bs' = edited_batches bs ns j x

  abbrev ns' : List ℕ
  ns' = edited_lengths ns j x

  -- where account j's batch starts and ends
  abbrev s : ℕ
  s = words_before ns j

  abbrev t : ℕ
  t = words_before ns (suc j)

  starts : s ≤ length bs
  starts = omega (arith, before_mono ns j (length ns) (omega arith), ok.sum)

  ends : t ≤ length bs
  ends = omega (arith, before_mono ns (suc j) (length ns) l, ok.sum)

  edit_sum : words_before ns' (length ns') ≡ length bs'
  edit_sum =
      let e : words_before ns' (length ns') ≡ words_before ns' (length ns) = ap (words_before ns') (length-set ns j (length x)) in
      omega (
        arith,
        e,
        length-append (take s bs) (x ++ drop t bs),
        length-append x (drop t bs),
        length-take-le s bs starts,
        length-drop t bs,
        after-set ns j (length x) (length ns) l l,
        ok.sum,
        before-suc ns j,
        ends,
      )

  pub edit_rows : AccountsRows bs' ns' entries
  edit_rows = let e = length-set ns j (length x) in record { few = omega (arith, e, ok.few); sum = edit_sum; list = omega (arith, e, ok.list) }

  pub edit_at : batch_of bs' ns' j ≡ x
  edit_at =
      (λ i. take (get_or-set_same ns j (length x) 0 l i) (drop (before-set ns j (length x) j (omega arith) i) bs'))
      ∙ ap (take (length x)) (drop_at (take s bs) (x ++ drop t bs) s (length-take-le s bs starts))
      ∙ take_at x (drop t bs) (length x) refl

  edit_before : (k : ℕ) → k < j → batch_of bs' ns' k ≡ batch_of bs ns k
  edit_before k h =
      let n = get_or ns k 0 in
      let p = words_before ns k in
      let f : p + n ≤ s = omega (arith, before_mono ns (suc k) j h, before-suc ns k) in
      (λ i. take (get_or-set_other ns j k (length x) 0 (λ e. absurd (omega arith)) i) (drop (before-set ns j (length x) k (omega arith) i) bs'))
      ∙ part_before bs (x ++ drop t bs) s p n f starts
      ∙ sym (ap (λ (y : List ℕ). take n (drop p y)) (sym (take-append-drop s bs)) ∙ part_before bs (drop s bs) s p n f starts)

  edit_after : (k : ℕ) → j < k → batch_of bs' ns' k ≡ batch_of bs ns k
  edit_after k h =
      let n = get_or ns k 0 in
      let p = words_before ns k in
      let u : t ≤ p = before_mono ns (suc j) k h in
      let q = take s bs ++ x in
      let a : length q ≡ s + length x = length-append (take s bs) x ∙ ap (λ (y : ℕ). y + length x) (length-take-le s bs starts) in
      let w : words_before ns' k ≡ length q + (p - t) = omega (arith, a, after-set ns j (length x) k l h, before-suc ns j, u) in
      let v : t + (p - t) ≡ p = omega (arith, u) in
      (λ i. take (get_or-set_other ns j k (length x) 0 (λ e. absurd (omega arith)) i) (drop (w i) (sym (append_assoc (take s bs) x (drop t bs)) i)))
      ∙ ap (take n) (drop-append-add q (drop t bs) (p - t) ∙ drop-drop (p - t) t bs ∙ ap (λ (y : ℕ). drop y bs) v)

  pub edit_other : (k : ℕ) → k ≢ j → batch_of bs' ns' k ≡ batch_of bs ns k
  edit_other k q = by (dec_lt k j) (dec_lt j k)
    where
      by : Dec (k < j) → Dec (j < k) → batch_of bs' ns' k ≡ batch_of bs ns k
      by (yes p) r = edit_before k p
      by (no p) (yes r) = edit_after k r
      by (no p) (no r) = let e : k ≡ j = omega arith in absurd (q e)
