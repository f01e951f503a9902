-- What trying ports makes of their table.
use Rattle.std.proofs.Common.{◌≡◌, ℕ, ◌+◌, ◌<◌, ◌≤◌, Bool, true, false, ◌||◌, List, length, set, Some, Option, sym, ap, ◌∙◌, subst, arith, length-set}
use Rattle.std.specs.List.{slice_get}
use Rattle.std.proofs.lemmas.List.{take_all}
use Rattle.std.proofs.lemmas.Option.{slice_get_within, slice_get-get_or}
use Rattle.definitions.specs.declared.loads.Load.{Load}
use Rattle.definitions.specs.Lists.{In}
use Rattle.definitions.specs.Network.{Records}
use Rattle.register.specs.Registers.{rows, viewed, Replacing}
use Rattle.working_out.specs.declared.rows.Progress.TheVariants.{Open}
use Rattle.working_out.specs.declared.rows.PortRow.{PortRow}
use Rattle.working_out.specs.declared.rows.LinkRow.{LinkRow}
use Rattle.working_out.specs.declared.rows.HopRow.{HopRow}
use Rattle.working_out.specs.Keys.{number_before, port_key, Ports, Links}
use Rattle.working_out.specs.Gathering.{loads_at}
use Rattle.working_out.specs.Settling.{Setting, Known, Figured, settled_row, untried, Settles, SettlesFirst}
use Rattle.working_out.proofs.Edited.{same_key}
use Rattle.working_out.proofs.RowLists.{take_set_in, take_more_in}
use Rattle.working_out.proofs.SettledRow.{known_on, one_less, not_open}

-- an open port was tried
pub tried_table : (worth : List Load → ℕ) (p q : Ports) (l : Links) (hs : List HopRow) (i : ℕ) (x : PortRow) → Some x ≡ slice_get (rows p) i → x.progress ≡ Open
    → (gs : List Load) → (gs ≡ loads_at (viewed l) x.port hs) → (o : Option (ℕ × ℕ)) → Figured worth hs x.port.number gs o
    → (new : PortRow) → new ≡ settled_row x o → (b : Bool) → Replacing number_before port_key i new p q b
    → (r : Records) → Setting r worth → Known r worth (rows p) (viewed l) hs (length hs) → Settles r worth (viewed l) hs i (rows p) (rows q) true
tried_table worth p q l hs i x at is_open gs gathered o told new e b replaced r s a =
    let now-is : rows q ≡ set (rows p) i (settled_row x o) = same_key number_before port_key (λ (z : PortRow). settled_row z o) (λ z. grind arith) p q i x new b at e replaced in (
      settled_row x o,
      slice_get_within (rows p) i x (sym at),
      now-is,
      not_open r worth s (rows p) (viewed l) hs a i x at is_open gs gathered o told o,
      subst (λ (ps : List PortRow). Known r worth ps (viewed l) hs (length hs)) (sym now-is) (known_on r worth s (rows p) (viewed l) hs a i x at is_open gs gathered o told),
      ap (λ (ps : List PortRow). untried ps + 1) now-is ∙ one_less r worth s (rows p) (viewed l) hs a i x at is_open gs gathered o told,
    )

-- one place more was passed
pub settle_more : (r : Records) (worth : List Load → ℕ) (ls : List LinkRow) (hs : List HopRow) (i : ℕ) (ps qs vs : List PortRow) (any b : Bool) → i < length ps
    → SettlesFirst r worth ls hs i ps qs any → Settles r worth ls hs i qs vs b → SettlesFirst r worth ls hs (i + 1) ps vs (any || b)
settle_more r worth ls hs i ps qs vs any false lt old (same, shut) = record {
  known = subst (λ (zs : List PortRow). Known r worth zs ls hs (length hs)) (sym same) old.known;
  none_open = λ x j.
      let lt' : i < length qs = omega (arith, lt, old.same_count) in
      grind (arith, take_more_in qs i x x lt' (rw same at j), slice_get-get_or qs i x lt', shut x, old.none_open x);
  same_count = ap length same ∙ old.same_count;
  same = λ e. same ∙ old.same (grind arith);
  fewer = λ e. grind (arith, old.fewer);
}
settle_more r worth ls hs i ps qs vs any true lt old (x, within, now-is, shut, known, less) = record {
  known = known;
  none_open = λ z j. grind (arith, take_set_in qs i x z within (rw now-is at j), old.none_open z);
  same_count = ap length now-is ∙ length-set qs i x ∙ old.same_count;
  same = λ e. absurd (grind arith);
  fewer = λ e. grind (arith, old.fewer, old.same);
}

-- after the last place no port is open
pub settled_all : (r : Records) (worth : List Load → ℕ) (ls : List LinkRow) (hs : List HopRow) (i : ℕ) (ps qs : List PortRow) (any : Bool) → length ps ≤ i
    → SettlesFirst r worth ls hs i ps qs any → (x : PortRow) → In x qs → ¬ (x.progress ≡ Open)
settled_all r worth ls hs i ps qs any le old x j = old.none_open x (subst (In x) (sym (take_all i qs (omega (arith, le, old.same_count)))) j)
