-- The records of a table as a part of its places.
use Rattle.std.proofs.Common.{◌≡◌, ℕ, List, length, take, Some, None, Option, sym, ap, ◌∙◌, arith, length-take, Bor}
use native.Mathlib.Decide.{dec_le}
use Rattle.std.proofs.lemmas.List.{take_all, length-take-le}
use Rattle.std.specs.Option.{option_map}
use Rattle.std.specs.Slice.{IsGetResult}
use Rattle.std.specs.List.{slice_get}
use Rattle.std.proofs.lemmas.Option.{slice_get-get_or, slice_get_past}
use Rattle.register.specs.declared.tables.Table.{Table}
use Rattle.register.specs.Tables.{rows, room}

-- so many places as there are records
pub take_count : {R : Type 0} (t : Table R) (n : ℕ) → n ≡ length (rows t) → take n t.places.now ≡ rows t
take_count t n e = elim (dec_le t.len (room t)) [
  | yes le ↦ ap (λ k. take k t.places.now) (e ∙ length-take-le t.len t.places.now le)
  | no gt ↦
      let l = length-take t.len t.places.now in
      take_all n t.places.now (omega arith) ∙ sym (take_all t.len t.places.now (omega arith))
]

-- what is read at a place
pub item_at : {X : Type 0} (xs : List X) (i : ℕ) (r : Option (Bor X)) (o : Option X) → IsGetResult xs i i r → o ≡ option_map (λ x. x.now) r → o ≡ slice_get xs i
item_at xs i None o h is = is ∙ sym (slice_get_past xs i (omega (arith, h.3)))
item_at xs i (Some x) o h is = is ∙ ap Some (h.3.1 x.now) ∙ sym (slice_get-get_or xs i x.now h.3.0)
