-- What passing one hop makes of the tables.
use Rattle.std.proofs.Common.{◌≡◌, ℕ, ◌+◌, ◌<◌, Bool, List, length, Some, None, sym, refl, subst, arith}
use Rattle.std.specs.List.{slice_get}
use Rattle.register.specs.Registers.{rows, viewed, Replacing}
use Rattle.working_out.specs.declared.rows.PortRow.{PortRow}
use Rattle.working_out.specs.declared.rows.HopRow.{HopRow}
use Rattle.working_out.specs.Keys.{number_before, place_before, port_key, hop_key, Ports, Links, Hops}
use Rattle.working_out.specs.Edits.{EditsUnder}
use Rattle.working_out.specs.Marks.{held_up}
use Rattle.working_out.specs.Settling.{Arrives, Advancing, Advance}
use Rattle.working_out.proofs.Edited.{same_key}
use Rattle.working_out.proofs.Held.{hop_count}
use Rattle.working_out.proofs.Advanced.{advance_known, advance_waits}

module _ (p : Ports) (l : Links) (h : Hops) (i : ℕ) (y : HopRow) (at : Some y ≡ slice_get (rows h) i) where
  pub pass_known : (k : Hops) (a b : ℕ) (done : Bool) → Arrives (rows p) (viewed l) (rows h) y.hop (Some (a, b))
      → Replacing place_before hop_key i (record { hop = y.hop; earliest = a; latest = b }) h k done → Advance p l h p k i (i + 1)
  pass_known k a b done told replaced r worth n s adv =
      let now-is = same_key place_before hop_key (λ (z : HopRow). record { hop = z.hop; earliest = a; latest = b }) (λ z. refl) h k i y _ done at refl replaced in
      subst (λ (hs : List HopRow). Advancing r worth (rows p) (viewed l) hs (i + 1) n) (sym now-is) (advance_known r worth s (rows p) (viewed l) (rows h) i n adv y at a b told)

  pub pass_waits : (q : Ports) → Arrives (rows p) (viewed l) (rows h) y.hop None → EditsUnder number_before port_key y.hop.port held_up p q → Advance p l h q h i (i + 1)
  pass_waits q told edited r worth n s adv =
      subst (λ (ps : List PortRow). Advancing r worth ps (viewed l) (rows h) (i + 1) n) (sym (edited.edited (λ x. refl))) (advance_waits r worth s (rows p) (viewed l) (rows h) i n adv y at told)

-- one place more
pub pass_more : (p q v : Ports) (l : Links) (h k w : Hops) (i : ℕ) → i < length (rows h) → Advance p l h q k 0 i
    → (i < length (rows k) → Advance q l k v w i (i + 1)) → Advance p l h v w 0 (i + 1)
pass_more p q v l h k w i lt before one r worth n s adv =
    let mid = before r worth n s adv in
    one (omega (arith, hop_count adv.known.worked.held, hop_count mid.known.worked.held)) r worth n s mid
