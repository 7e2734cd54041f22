-- Strict total orders of indices as tests, one made finer by another: first by a number, the larger first, then by what orders those that agree in it.
use Rattle.std.specs.Prelude.{◌≡◌, refl, Bool, true, false, not, ◌≢◌, ◌⊎◌, ℕ, ◌<◌, ltb}
use Rattle.std.proofs.Common.{sym, ap, ◌∙◌, true≢false, inl, inr, arith, lt-ltb, le-ltb, eq-eqb, ne_eqb, ltb-true}
use Rattle.std.proofs.Math.Decide.{dec_lt}
unfoldable pub use Rattle.numbers.specs.Definitions.{by_place, larger_then}

-- b i j: i goes before j
pub record Order (b : ℕ → ℕ → Bool) : Type 0 where
  pub never : (i : ℕ) → b i i ≡ false
  pub other : (i j : ℕ) → i ≢ j → b j i ≡ not (b i j)
  pub trans : (i j k : ℕ) → b i j ≡ true → b j k ≡ true → b i k ≡ true

pub place_order : Order by_place
place_order =
    record {
      never = λ i. le-ltb i i (omega arith);
      other = λ i j n. by i j n (dec_lt i j);
      trans = λ i j k p q. lt-ltb i k (omega (arith, ltb-true i j p, ltb-true j k q));
    }
  where
    by : (i j : ℕ) → i ≢ j → Dec (i < j) → ltb j i ≡ not (ltb i j)
    by i j n (yes h) = rw (lt-ltb i j h, le-ltb j i (omega arith))
    by i j n (no h) = let g : j < i = omega arith in rw (lt-ltb j i g, le-ltb i j (omega arith))

module _ (x : ℕ → ℕ) (r : ℕ → ℕ → Bool) where
  larger : (i j : ℕ) → x j < x i → larger_then x r i j ≡ true
  larger i j h = rw (lt-ltb (x j) (x i) h)

  smaller : (i j : ℕ) → x i < x j → larger_then x r i j ≡ false
  smaller i j h = rw (le-ltb (x j) (x i) (omega arith), ne_eqb (x i) (x j) (λ e. omega arith))

  equal : (i j : ℕ) → x i ≡ x j → larger_then x r i j ≡ r i j
  equal i j e = rw (le-ltb (x j) (x i) (omega arith), eq-eqb (x i) (x j) e)

  -- i before j: x is larger, or equal and r says so
  out : (i j : ℕ) → larger_then x r i j ≡ true → (x j < x i) ⊎ ((x i ≡ x j) × (r i j ≡ true))
  out i j h = by (dec_lt (x j) (x i)) (dec_lt (x i) (x j))
    where
      by : Dec (x j < x i) → Dec (x i < x j) → (x j < x i) ⊎ ((x i ≡ x j) × (r i j ≡ true))
      by (yes l) q = inl l
      by (no l) (yes m) = absurd (true≢false (sym h ∙ smaller i j m))
      by (no l) (no m) = let e : x i ≡ x j = omega arith in inr (e, sym (equal i j e) ∙ h)

  pub larger_order : Order r → Order (larger_then x r)
  larger_order o =
      record {
        never = λ i. equal i i refl ∙ o.never i;
        other = λ i j n. by i j n (dec_lt (x j) (x i)) (dec_lt (x i) (x j));
        trans = λ i j k p q. to i j k (out i j p) (out j k q);
      }
    where
      by : (i j : ℕ) → i ≢ j → Dec (x j < x i) → Dec (x i < x j) → larger_then x r j i ≡ not (larger_then x r i j)
      by i j n (yes l) q = smaller j i l ∙ sym (ap not (larger i j l))
      by i j n (no l) (yes m) = larger j i m ∙ sym (ap not (smaller i j m))
      by i j n (no l) (no m) =
          let e : x i ≡ x j = omega arith in
          equal j i (sym e) ∙ o.other i j n ∙ sym (ap not (equal i j e))

      to : (i j k : ℕ) → (x j < x i) ⊎ ((x i ≡ x j) × (r i j ≡ true)) → (x k < x j) ⊎ ((x j ≡ x k) × (r j k ≡ true)) → larger_then x r i k ≡ true
      to i j k (inl p) (inl q) = larger i k (omega arith)
      to i j k (inl p) (inr q) = larger i k (omega (arith, q.0))
      to i j k (inr p) (inl q) = larger i k (omega (arith, p.0))
      to i j k (inr p) (inr q) = equal i k (p.0 ∙ q.0) ∙ o.trans i j k p.1 q.1
