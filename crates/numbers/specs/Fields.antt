-- A number by its fields of bits, the highest first: widths i, j, k and l.
use Rattle.std.specs.Prelude.{◌≡◌, ℕ, ◌+◌, ◌*◌, ◌/◌, ◌%◌, ◌^◌, ◌<◌}
use Rattle.std.proofs.Common.{sym, ap, ◌∙◌, mod-eq_of_lt}
use Rattle.std.proofs.lemmas.Nat.{mod-pow-add}

pub four_fields : (x i j k l : ℕ) → x < 2 ^ (i + (j + (k + l)))
    → x / 2 ^ (j + (k + l)) % 2 ^ i * 2 ^ (j + (k + l)) + (x / 2 ^ (k + l) % 2 ^ j * 2 ^ (k + l) + (x / 2 ^ l % 2 ^ k * 2 ^ l + x % 2 ^ l)) ≡ x
four_fields x i j k l h =
    let a : ℕ = x / 2 ^ (j + (k + l)) % 2 ^ i * 2 ^ (j + (k + l)) in
    let b : ℕ = x / 2 ^ (k + l) % 2 ^ j * 2 ^ (k + l) in
    sym (mod-pow-add x i (j + (k + l))
    ∙ ap (λ (y : ℕ). a + y) (mod-pow-add x j (k + l) ∙ ap (λ (y : ℕ). b + y) (mod-pow-add x k l)))
    ∙ mod-eq_of_lt h
