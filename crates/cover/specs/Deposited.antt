-- The one deposit of a class, found by the class's number.
use Rattle.std.specs.Prelude.{◌≡◌, Bool, ◌⊎◌, List, ℕ, ◌<◌, eqb, None}
use Rattle.std.proofs.Common.{sym, ap, ◌∙◌, true≢false, inl, inr, eq-eqb}
use Rattle.numbers.specs.Scan.{first_bad, first_clear}
use Rattle.model.specs.DayFile.{class_count, class_number, class_place}
use Rattle.model.specs.Deposits.{deposit_count, named_number, shares, shares_of}
use Rattle.model.proofs.Accepted.{DayRows, DepositRows}
use Rattle.model.proofs.DepositOrders.{known}
use Rattle.model.proofs.DepositLaws.{place_number, shares_named, named_or_none}
use Rattle.model.proofs.Together.{class_place_lem}

-- deposit i names class c
abbrev pub names : List ℕ → List ℕ → ℕ → ℕ → Bool
names d x c i = eqb (named_number x i) (class_number d c)

module _ (d x : List ℕ) (r : DepositRows d x) (days : DayRows d) (c : ℕ) (h : c < class_count d) where
  pub deposit_hit : (i : ℕ) → i < deposit_count x → named_number x i ≡ class_number d c → shares x i ≡ shares_of d x c
  deposit_hit i l e = sym (shares_named d x r i l) ∙ ap (shares_of d x) (ap (class_place d) e ∙ class_place_lem d days c h)

  pub deposit_none : first_bad (names d x c) (deposit_count x) ≡ None → 0 ≡ shares_of d x c
  deposit_none e = by (named_or_none d x r c)
    where
      by : ((i : ℕ) × (i < deposit_count x) × (class_place d (named_number x i) ≡ c)) ⊎ (shares_of d x c ≡ 0) → 0 ≡ shares_of d x c
      by (inl q) =
          let i = q.0 in
          let z = sym (place_number d (named_number x i) (known d x i (r.at50 i q.1))) ∙ ap (class_number d) q.2 in
          absurd (true≢false (sym (eq-eqb (named_number x i) (class_number d c) z) ∙ first_clear (names d x c) (deposit_count x) e i q.1))
      by (inr z) = sym z
