-- A batch whose records pass every row: its nets and DVPs are a table of which each position held can be a record.
use Rattle.std.specs.Prelude.{◌≡◌, refl, Bool, ◌&&◌, List, length, Ok}
use Rattle.std.proofs.Math.Path.{sym, ap}
use Rattle.std.proofs.Common.{◌∙◌, arith}
use Rattle.std.proofs.Math.Bool.{true, false, not}
use Prim.Native.Nat.{ℕ, ◌*◌, ◌≤◌, ◌<◌}
use borrow.Author.Tests.{eqb-true, le-ltb, ltb-false}
use Rattle.std.proofs.Math.Dec.{ltb, eqb}
use Rattle.std.proofs.Math.IntN.{nat_abs}
use Rattle.numbers.specs.Budget.{bound_where}
use Rattle.numbers.specs.Tests.{and_true, and_false}
use Rattle.model.specs.declared.Check.TheVariants.{Netting}
use Rattle.model.specs.declared.NettingFault.TheVariants.{NoSpace}
use Rattle.model.specs.Limits.{most_records}
use Rattle.model.specs.Words.{payload, bits}
use Rattle.model.specs.DayFile.{series_type, is_security}
use Rattle.model.specs.DayChecks.{day_check}
use Rattle.model.specs.Batch.{record_count, record_word, key, dvp_amount}
use Rattle.model.specs.BatchChecks.{row24, row25, row26}
use Rattle.model.specs.Netting.{net, dvp, netting_check}
use Rattle.model.specs.Rewriting.{held_records}
use Rattle.model.specs.RewritingChecks.{row32, dvp_check, space_check, rewriting_check}
use Rattle.model.proofs.Accepted.{RecordRows, plain_clear}
use Rattle.model.proofs.Limits.{place_limit}
use Rattle.model.proofs.Nets.{none_outside}
use Rattle.model.proofs.Verdicts.{tried-passed}
use Rattle.corollaries.specs.FewHeld.{behind}
use Rattle.model.proofs.NettingRows.{dvp_within, place_of_key, net_limited, netting_by, dvps_by}
use Rattle.corollaries.specs.Rewritten.{Lawful, Table}

-- those that rewriting and adding try, but for 20 and 21
pub record Summed (d b : List ℕ) : Type 0 where
  pub day : day_check d ≡ Ok tt
  pub records : RecordRows d b
  pub netting : netting_check d b ≡ Ok tt
  pub dvps : dvp_check b ≡ Ok tt
  pub space : length (held_records (net b) (dvp b)) ≤ most_records

pub summed_of : (d b : List ℕ) → day_check d ≡ Ok tt → RecordRows d b → rewriting_check d b ≡ Ok tt → Summed d b
unfolding rewriting_check space_check row32
summed_of d b p r e =
    let z = tried-passed _ e in
    record {
      day = p;
      records = r;
      netting = z.0;
      dvps = z.1.0;
      space = ltb-false most_records (length (held_records (net b) (dvp b))) (plain_clear (Netting NoSpace) (row32 b) z.1.1.0);
    }

-- ---- the table

-- the fields of a key
eighth : (x p : ℕ) → bits x 0 10 ≡ p → bits x 8 1 ≡ bits p 8 1
eighth x p e = omega arith

ninth : (x p : ℕ) → bits x 0 10 ≡ p → bits x 9 1 ≡ bits p 9 1
ninth x p e = omega arith

module _ (d b : List ℕ) (s : Summed d b) where
  -- a position with DVP not 0 is of a security: on another type no record has one
  paid : (p : ℕ) (t : Bool) → is_security (series_type d (bits p 0 8)) ≡ t → (ltb 0 (nat_abs (dvp b p)) && not t) ≡ false
  unfolding row26 dvp
  paid p true e = and_false (ltb 0 (nat_abs (dvp b p)))
  paid p false e =
      let none : (q : ℕ) → q < record_count b → eqb (key b q) p ≡ true → nat_abs (dvp_amount b q) ≤ 0 * 1 =
      λ q l k.
      let f : (ltb 0 (nat_abs (dvp_amount b q)) && not (is_security (series_type d (bits p 0 8)))) ≡ false =
      rw (place_of_key (payload (record_word b q 0)) p (eqb-true (key b q) p k)) at (s.records.at26 q l)
      in
      let g : ltb 0 (nat_abs (dvp_amount b q)) ≡ false = sym (and_true (ltb 0 (nat_abs (dvp_amount b q)))) ∙ (rw e at f) in
      omega (arith, ltb-false 0 (nat_abs (dvp_amount b q)) g)
      in
      let z = bound_where (record_count b) (λ q. eqb (key b q) p) (λ q. eqb (key b q) p) (dvp_amount b) (λ q. 1) 0 (λ q k. k) none in
      ap (λ (t : Bool). t && true) (le-ltb 0 (nat_abs (dvp b p)) (omega (arith, z)))

  batch_lawful : (p r : ℕ) → r < record_count b → key b r ≡ p → Lawful d p (dvp b p)
  unfolding row24 row25
  batch_lawful p r h e =
      let x : ℕ = payload (record_word b r 0) in
      record {
        placed = rw (place_of_key x p e) at (place_limit d b s.records r h);
        option = rw (place_of_key x p e, eighth x p e) at (s.records.at24 r h);
        security = rw (place_of_key x p e, ninth x p e) at (s.records.at25 r h);
        dvp_security = paid p (is_security (series_type d (bits p 0 8))) refl;
      }

  pub batch_table : Table d (net b) (dvp b)
  batch_table =
      record {
        lawful = λ p h e. let z = behind b p e in batch_lawful p z.0 z.1 z.2;
        net_limit = net_limited d b s.netting;
        dvp_limit = dvp_within b s.dvps;
        net_outside = λ p h. (none_outside b p h).0;
        dvp_outside = λ p h. (none_outside b p h).1;
      }

-- rows 30 to 32 look at the nets and the DVPs alone
pub summed_by : (d b c : List ℕ) → RecordRows d c → net b ≡ net c → dvp b ≡ dvp c → Summed d b → Summed d c
summed_by d b c r x y s =
    record {
      day = s.day;
      records = r;
      netting = netting_by d c (λ p. rw x at (net_limited d b s.netting p));
      dvps = dvps_by c (λ p. rw y at (dvp_within b s.dvps p));
      space = rw (x, y) at s.space;
    }
