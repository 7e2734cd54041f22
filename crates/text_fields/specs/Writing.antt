-- A text as a buffer and a length: room behind it, and what writing bytes behind it leaves.
use Rattle.std.specs.Prelude.{◌≡◌, List, [], ◌++◌, ℕ, ◌+◌, ◌≤◌, length}
use Rattle.std.proofs.Common.{refl, sym, ap, ◌∙◌, arith, length-append}
use Rattle.numbers.specs.Put.{put, put-none, put-put, put-length}
use Rattle.text_fields.specs.declared.Text.{Text}

-- n bytes more fit
abbrev pub HasRoom : ℕ → Text → Type 0
HasRoom n t = t.len + n ≤ length t.out.now

-- the text t became u as w was written, in the same buffer
pub record Wrote (w : List ℕ) (t u : Text) : Type 0 where
  pub same : u.out.ghost_name ≡ t.out.ghost_name
  pub end : u.len ≡ t.len + length w
  pub bytes : u.out.now ≡ put t.len w t.out.now

pub wrote-none : (t : Text) → Wrote [] t t
wrote-none t = record { same = refl; end = omega arith; bytes = sym (put-none t.len t.out.now) }

module _ {t u : Text} {w : List ℕ} (h : Wrote w t u) where
  -- what room is left
  pub room_left : (n : ℕ) → HasRoom (length w + n) t → HasRoom n u
  room_left n r = omega (arith, h.end, ap length h.bytes, put-length t.len w t.out.now (omega (arith, r)), r)

  -- v written behind w
  pub wrote_then : {x : Text} {v : List ℕ} → Wrote v u x → HasRoom (length w + length v) t → Wrote (w ++ v) t x
  wrote_then {v = v} g r =
      record {
        same = g.same ∙ h.same;
        end = omega (arith, h.end, g.end, length-append w v);
        bytes = g.bytes ∙ ap (put u.len v) h.bytes ∙ put-put t.len w v t.out.now u.len h.end (omega (arith, h.end, r));
      }
