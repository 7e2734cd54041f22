-- A table of nets n and DVPs v, rewritten: where each position held can be a record it has these nets and DVPs, and where they are few it is accepted.
use Rattle.std.specs.Prelude.{◌≡◌, true, false, ◌&&◌, eqb, ℤ, nat_abs, ◌-ℤ◌, length, get_or, Ok}
use Rattle.std.proofs.Common.{sym, ◌∙◌, le_refl, mul-le-mul, arith}
use Rattle.std.proofs.Math.Path.{fun_ext}
use Rattle.std.proofs.Math.Bool.{not}
use mathlib.Core.List.{List, []}
use Prim.Native.Nat.{ℕ, ◌*◌, ◌≤◌, ◌<◌}
use Rattle.std.proofs.Math.Decide.{dec_lt}
use Rattle.std.proofs.lemmas.Bool.{lt-leb}
use Rattle.std.proofs.Math.Dec.{ltb}
use Rattle.std.proofs.Math.IntN.{pos}
use Rattle.numbers.specs.Chosen.{joined}
use Rattle.model.specs.Limits.{position_limit, dvp_amount_limit, most_records}
use Rattle.model.specs.Words.{payload, bits, word, amount}
use Rattle.model.specs.DayFile.{series_count, series_type, multiplier, is_option, is_security}
use Rattle.model.specs.DayChecks.{day_check}
use Rattle.model.specs.BatchChecks.{key_limit, row23, row24, row25, row26}
use Rattle.model.specs.Netting.{position_count, net, dvp}
use Rattle.model.specs.Steps.Positions.{held}
use Rattle.model.specs.Calls.{Accepted}
use Rattle.model.specs.Locality.{record_at}
use Rattle.model.specs.Rewriting.{in_order, long_of, short_of, held_records, rewritten}
use Rattle.model.proofs.Accepted.{DayRows, RecordRows, BatchRows, netting_rows, deposit_checked, rows_accepted}
use Rattle.model.proofs.Cover.{no_deposits_pass}
use Rattle.model.proofs.HeldRecords.{held_at, record_at_place, held_each, rewritten_count}
use Rattle.model.proofs.Limits.{multiplier_least}
use Rattle.model.proofs.Nets.{net-sum, dvp-sum, none_outside}
use Rattle.model.proofs.WordsBack.{payload-word, amount_back}
use Rattle.corollaries.specs.Batches.{made_20, made_21}
use Rattle.corollaries.specs.PositionOrder.{in_order_below}
use Rattle.corollaries.specs.PositionRecord.{net_read, quantities, kinds_right, ranges_right, signs_right}
use Rattle.model.proofs.GoodRecord.{Good, bad, good_of, not_bad, good_rows}
use Rattle.model.proofs.NettingRows.{netting_by}
use Rattle.corollaries.specs.RewrittenRecords.{unheld_net, unheld_dvp, held_clear, summed}

-- position p of the day file can have a record with the DVP z: rows 23 to 26 of its key and its DVP
pub record Lawful (d : List ℕ) (p : ℕ) (z : ℤ) : Type 0 where
  pub placed : bits p 0 8 < series_count d
  pub option : (eqb (bits p 8 1) 1 && not (is_option (series_type d (bits p 0 8)))) ≡ false
  pub security : (eqb (bits p 9 1) 1 && not (is_security (series_type d (bits p 0 8)))) ≡ false
  pub dvp_security : (ltb 0 (nat_abs z) && not (is_security (series_type d (bits p 0 8)))) ≡ false

-- each position held can have a record, with a net and a DVP within rows 30 and 31
pub record Table (d : List ℕ) (n v : ℕ → ℤ) : Type 0 where
  pub lawful : (p : ℕ) → p < position_count → held n v p ≡ true → Lawful d p (v p)
  pub net_limit : (p : ℕ) → nat_abs (n p) * multiplier d (bits p 0 8) ≤ position_limit
  pub dvp_limit : (p : ℕ) → nat_abs (v p) ≤ dvp_amount_limit
  pub net_outside : (p : ℕ) → position_count ≤ p → n p ≡ pos 0
  pub dvp_outside : (p : ℕ) → position_count ≤ p → v p ≡ pos 0

module _ (d : List ℕ) (n v : ℕ → ℤ) (days : DayRows d) (t : Table d n v) where
  -- the position at place i of the order
  at_place : (i : ℕ) → i < position_count → held_at n v i ≡ true → Lawful d (in_order i) (v (in_order i))
  at_place i h e = t.lawful (in_order i) (in_order_below i h) e

  net-size : (i : ℕ) → i < position_count → held_at n v i ≡ true → nat_abs (n (in_order i)) ≤ position_limit
  net-size i h e =
      omega (
        arith,
        t.net_limit (in_order i),
        mul-le-mul (le_refl (nat_abs (n (in_order i)))) (multiplier_least d days (bits (in_order i) 0 8) (at_place i h e).placed),
      )

  -- ---- its nets and DVPs

  net_below : (p : ℕ) → p < position_count → net (rewritten n v) p ≡ n p
  net_below p h =
      net-sum (rewritten n v) p
      ∙ summed n v (λ w. pos (payload (get_or w 2 0)) -ℤ pos (payload (get_or w 1 0))) n (unheld_net n v)
      (λ i l e. net_read (n (in_order i)) (net-size i l e)) p h

  dvp_below : (p : ℕ) → p < position_count → dvp (rewritten n v) p ≡ v p
  dvp_below p h =
      dvp-sum (rewritten n v) p
      ∙ summed n v (λ w. amount (get_or w 3 0) (get_or w 4 0) (get_or w 5 0)) v (unheld_dvp n v)
      (λ i l e. amount_back (v (in_order i)) (omega (arith, t.dvp_limit (in_order i)))) p h

  pub net-rewritten : net (rewritten n v) ≡ n
  net-rewritten = fun_ext (λ p. by p (dec_lt p position_count))
    where
      by : (p : ℕ) → Dec (p < position_count) → net (rewritten n v) p ≡ n p
      by p (yes h) = net_below p h
      by p (no h) = (none_outside (rewritten n v) p (omega arith)).0 ∙ sym (t.net_outside p (omega arith))

  pub dvp-rewritten : dvp (rewritten n v) ≡ v
  dvp-rewritten = fun_ext (λ p. by p (dec_lt p position_count))
    where
      by : (p : ℕ) → Dec (p < position_count) → dvp (rewritten n v) p ≡ v p
      by p (yes h) = dvp_below p h
      by p (no h) = (none_outside (rewritten n v) p (omega arith)).1 ∙ sym (t.dvp_outside p (omega arith))

  -- ---- it is accepted

  record_good : (i : ℕ) → i < position_count → held_at n v i ≡ true → Good d (record_at_place n v i)
  unfolding row23 row24 row25 row26
  record_good i h e =
      let l = at_place i h e in
      let below = in_order_below i h in
      let keyed : payload (word 2 (in_order i)) ≡ in_order i = payload-word 2 (in_order i) (omega arith) in
      let key_size : in_order i ≤ key_limit = omega arith in
      let sides = quantities (n (in_order i)) (net-size i h e) in
      let dvp_size = t.dvp_limit (in_order i) in
      record {
        kinds = kinds_right (in_order i) (long_of (n (in_order i))) (short_of (n (in_order i))) (v (in_order i)) key_size sides.0 sides.1 dvp_size;
        ranges = ranges_right (in_order i) (long_of (n (in_order i))) (short_of (n (in_order i))) (v (in_order i)) key_size sides.0 sides.1 dvp_size;
        signs = λ j q. signs_right (in_order i) (long_of (n (in_order i))) (short_of (n (in_order i))) (v (in_order i)) key_size sides.0 sides.1 dvp_size j;
        at23 = rw keyed (lt-leb (series_count d) (bits (in_order i) 0 8) l.placed);
        at24 = rw keyed l.option;
        at25 = rw keyed l.security;
        at26 = rw (keyed, amount_back (v (in_order i)) (omega arith)) l.dvp_security;
      }

  record_rows : RecordRows d (rewritten n v)
  record_rows =
      good_rows d (rewritten n v)
      (λ r h. good_of d (record_at (rewritten n v) r) (held_clear n v (bad d) (λ i l e. not_bad d (record_at_place n v i) (record_good i l e)) r h))

  module _ (few : length (held_records n v) ≤ most_records) where
    batch_rows : BatchRows d (rewritten n v)
    unfolding rewritten
    batch_rows =
        let h : List (List ℕ) = held_records n v in
        record {
          checks = record {
            at20 = made_20 (length h) (joined h) few;
            at21 = made_21 (word 1 (length h)) h (held_each n v) (rewritten_count n v);
            records = record_rows;
          };
          at30 = netting_rows d (rewritten n v) (netting_by d (rewritten n v) (λ p. rw net-rewritten (t.net_limit p)));
        }

    pub rewritten_accepted : day_check d ≡ Ok tt → Accepted d (rewritten n v) []
    rewritten_accepted p = rows_accepted d (rewritten n v) [] p batch_rows (deposit_checked d [] (no_deposits_pass d))
