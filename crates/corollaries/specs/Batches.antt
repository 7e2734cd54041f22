-- A batch as a header and its records: an accepted one is nothing else, and any order of the records is a reordering.
use Rattle.std.specs.Prelude.{◌≡◌, refl, false, not, ℕ, zero, suc, ◌+◌, ◌*◌, ◌<◌, ◌≤◌, length, get_or, drop}
use Rattle.std.proofs.Common.{sym, ap, ◌∙◌, arith, length-append, drop-cons, get_or-append-add, eq-eqb, ne_eqb, le-ltb}
use Rattle.std.proofs.Math.Logic.{∥∥₁_elim}
use mathlib.Core.List.{List, [], ◌∷◌, ◌++◌, append_assoc, Permᴰ, Perm}
use Rattle.std.proofs.Math.Nat.{ℕ_set}
use Rattle.std.proofs.Math.Seq.{drop-length}
use Rattle.numbers.specs.Chosen.{joined, Each, none, more, joined_length}
use Rattle.numbers.specs.Table.{tabulate, tabulate_ext}
use Rattle.model.specs.Limits.{most_records}
use Rattle.model.specs.Words.{kind, payload, word}
use Rattle.model.specs.Batch.{batch_header, record_count, record_words, batch_words}
use Rattle.model.specs.BatchChecks.{row20, row21}
use Rattle.model.specs.Calls.{Accepted}
use Rattle.model.specs.Locality.{record_at, records, Reordered}
use Rattle.model.proofs.Limits.{batch_length}
use Rattle.model.proofs.Accepted.{batch_rows}
use Rattle.model.proofs.WordsBack.{payload-word}

-- the six words of b from word j on
abbrev six_at : List ℕ → ℕ → List ℕ
six_at b j = get_or b (j + 0) 0 ∷ get_or b (j + 1) 0 ∷ get_or b (j + 2) 0 ∷ get_or b (j + 3) 0 ∷ get_or b (j + 4) 0 ∷ get_or b (j + 5) 0 ∷ []

-- ---- an accepted batch

next : (b : List ℕ) (i k : ℕ) → i < length b → i + 1 ≡ k → drop i b ≡ get_or b i 0 ∷ drop k b
next b i k h e = let q : suc i ≡ k = omega arith in drop-cons b i 0 h ∙ ap (λ (m : ℕ). get_or b i 0 ∷ drop m b) q

six_off : (b : List ℕ) (j : ℕ) → j + record_words ≤ length b → drop (j + 0) b ≡ six_at b j ++ drop (j + record_words) b
six_off b j h =
    next b (j + 0) (j + 1) (omega arith) (omega arith)
    ∙ ap (λ (l : List ℕ). get_or b (j + 0) 0 ∷ l)
    (next b (j + 1) (j + 2) (omega arith) (omega arith)
    ∙ ap (λ (l : List ℕ). get_or b (j + 1) 0 ∷ l)
    (next b (j + 2) (j + 3) (omega arith) (omega arith)
    ∙ ap (λ (l : List ℕ). get_or b (j + 2) 0 ∷ l)
    (next b (j + 3) (j + 4) (omega arith) (omega arith)
    ∙ ap (λ (l : List ℕ). get_or b (j + 3) 0 ∷ l)
    (next b (j + 4) (j + 5) (omega arith) (omega arith)
    ∙ ap (λ (l : List ℕ). get_or b (j + 4) 0 ∷ l) (next b (j + 5) (j + record_words) (omega arith) (omega arith))))))

sixes : (n j : ℕ) (b : List ℕ) → length b ≡ j + record_words * n → joined (tabulate n (λ r. six_at b (j + record_words * r))) ≡ drop j b
unfolding joined tabulate
sixes zero j b e = let q : length b ≡ j = omega arith in sym (ap (λ (i : ℕ). drop i b) (sym q) ∙ drop-length b)
sixes (suc n) j b e =
    let z : j + record_words * 0 ≡ j = omega arith in
    let o : j ≡ j + 0 = omega arith in
    let t = tabulate_ext n (λ r. six_at b (j + record_words * suc r)) (λ r. six_at b (j + record_words + record_words * r)) (λ r h. ap (six_at b) (omega arith)) in
    (λ i. six_at b (z i) ++ joined (t i))
    ∙ ap (λ (l : List ℕ). six_at b j ++ l) (sixes n (j + record_words) b (omega arith))
    ∙ sym (ap (λ (i : ℕ). drop i b) o ∙ six_off b j (omega arith))

-- a batch whose length is that of its records
pub body_is : (b : List ℕ) → length b ≡ batch_words (record_count b) → drop 1 b ≡ joined (records b)
body_is b e = sym (sixes (record_count b) 1 b e)

pub batch_is : (d b x : List ℕ) → Accepted d b x → b ≡ batch_header b ∷ joined (records b)
batch_is d b x a =
    let e = batch_length d b (batch_rows d b x a).checks in
    drop-cons b 0 0 (omega arith) ∙ ap (λ (l : List ℕ). batch_header b ∷ l) (body_is b e)

-- ---- a batch made of a header and records of six words each

six_at_lem : (p r rest : List ℕ) → length r ≡ record_words → six_at (p ++ (r ++ rest)) (length p) ≡ r
six_at_lem p (u ∷ v ∷ w ∷ x ∷ y ∷ z ∷ []) rest h =
    λ i.
    get_or-append-add p (u ∷ v ∷ w ∷ x ∷ y ∷ z ∷ rest) 0 0 i
    ∷ get_or-append-add p (u ∷ v ∷ w ∷ x ∷ y ∷ z ∷ rest) 1 0 i
    ∷ get_or-append-add p (u ∷ v ∷ w ∷ x ∷ y ∷ z ∷ rest) 2 0 i
    ∷ get_or-append-add p (u ∷ v ∷ w ∷ x ∷ y ∷ z ∷ rest) 3 0 i
    ∷ get_or-append-add p (u ∷ v ∷ w ∷ x ∷ y ∷ z ∷ rest) 4 0 i
    ∷ get_or-append-add p (u ∷ v ∷ w ∷ x ∷ y ∷ z ∷ rest) 5 0 i
    ∷ []
six_at_lem p [] rest h = absurd (omega arith)
six_at_lem p (u ∷ []) rest h = absurd (omega arith)
six_at_lem p (u ∷ v ∷ []) rest h = absurd (omega arith)
six_at_lem p (u ∷ v ∷ w ∷ []) rest h = absurd (omega arith)
six_at_lem p (u ∷ v ∷ w ∷ x ∷ []) rest h = absurd (omega arith)
six_at_lem p (u ∷ v ∷ w ∷ x ∷ y ∷ []) rest h = absurd (omega arith)
six_at_lem p (u ∷ v ∷ w ∷ x ∷ y ∷ z ∷ t ∷ r) rest h = absurd (omega arith)

cut : {l : List (List ℕ)} → Each record_words l → (p : List ℕ) → tabulate (length l) (λ r. six_at (p ++ joined l) (length p + record_words * r)) ≡ l
unfolding joined tabulate
cut none p = refl
cut (more {b = b} {l = l} h e) p =
    let z : length p + record_words * 0 ≡ length p = omega arith in
    let q : p ++ (b ++ joined l) ≡ (p ++ b) ++ joined l = sym (append_assoc p b (joined l)) in
    let n : (r : ℕ) → length p + record_words * suc r ≡ length (p ++ b) + record_words * r = λ r. omega (arith, length-append p b) in
    let t = tabulate_ext (length l) (λ r. six_at (p ++ (b ++ joined l)) (length p + record_words * suc r)) (λ r. six_at ((p ++ b) ++ joined l) (length (p ++ b) + record_words * r)) (λ r k j. six_at (q j) (n r j)) in
    λ i. (ap (six_at (p ++ (b ++ joined l))) z ∙ six_at_lem p b (joined l) h) i ∷ (t ∙ cut e (p ++ b)) i

pub records_back : (h : ℕ) (l : List (List ℕ)) → Each record_words l → payload h ≡ length l → records (h ∷ joined l) ≡ l
records_back h l e c = ap (λ (n : ℕ). tabulate n (record_at (h ∷ joined l))) c ∙ cut e (h ∷ [])

-- it passes row 20 where its header counts few, and row 21 where it counts the records
pub made_20 : (n : ℕ) (l : List ℕ) → n ≤ most_records → row20 (word 1 n ∷ l) ≡ false
unfolding row20
made_20 n l h =
    let k : kind (word 1 n) ≡ 1 = omega arith in
    rw (ne_eqb (length (word 1 n ∷ l)) 0 (λ z. omega arith), k, payload-word 1 n (omega arith), le-ltb most_records n h)

pub made_21 : (h : ℕ) (l : List (List ℕ)) → Each record_words l → payload h ≡ length l → row21 (h ∷ joined l) ≡ false
unfolding row21
made_21 h l e c = ap not (eq-eqb (length (h ∷ joined l)) (batch_words (payload h)) (omega (arith, joined_length e)))

-- ---- another order

length_permᴰ : {l₁ l₂ : List (List ℕ)} → Permᴰ l₁ l₂ → length l₁ ≡ length l₂
length_permᴰ Permᴰ.nil = refl
length_permᴰ (Permᴰ.cons e p) = ap suc (length_permᴰ p)
length_permᴰ (Permᴰ.swap e f) = refl
length_permᴰ (Permᴰ.trans p q) = length_permᴰ p ∙ length_permᴰ q

length-perm : (l₁ l₂ : List (List ℕ)) → Perm l₁ l₂ → length l₁ ≡ length l₂
length-perm l₁ l₂ p = ∥∥₁_elim p (ℕ_set (length l₁) (length l₂)) length_permᴰ

-- the records l₁ behind a header that counts them, and the same records in the order l₂
pub reordered : (h : ℕ) (l₁ l₂ : List (List ℕ)) → Each record_words l₁ → Each record_words l₂ → payload h ≡ length l₁ → Perm l₁ l₂
    → Reordered (h ∷ joined l₁) (h ∷ joined l₂)
reordered h l₁ l₂ e₁ e₂ c p =
    let n = length-perm l₁ l₂ p in
    record {
      header = refl;
      long = omega (arith, joined_length e₁, joined_length e₂);
      same = rw (records_back h l₁ e₁ c, records_back h l₂ e₂ (c ∙ n)) p;
    }
