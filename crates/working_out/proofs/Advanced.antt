-- One hop more is passed: its arrivals are known, or its port waits.
use Rattle.std.proofs.Common.{◌≡◌, ℕ, ◌+◌, ◌<◌, length, get_or, ◌⊎◌, List, map, set, Some, None, sym, ◌∙◌, subst, inl, inr, arith}
use Rattle.std.proofs.Math.Seq.{map-set_same}
use Rattle.std.proofs.lemmas.Bool.Decides.{nat_tests}
use Rattle.std.proofs.lemmas.Option.{slice_get_within, get_or_from_slice_get}
use Rattle.std.specs.List.{slice_get}
use Rattle.definitions.specs.declared.loads.Load.{Load}
use Rattle.definitions.specs.Lists.{In}
use Rattle.definitions.specs.Network.{Records}
use Rattle.definitions.specs.Figures.{Figures, FiguresOf}
use Rattle.theory.proofs.Variants.{no_none}
use Rattle.theory.proofs.Keys.{before_hop}
use Rattle.working_out.specs.declared.rows.Progress.TheVariants.{Waiting}
use Rattle.working_out.specs.declared.rows.PortRow.{PortRow}
use Rattle.working_out.specs.declared.rows.LinkRow.{LinkRow}
use Rattle.working_out.specs.declared.rows.HopRow.{HopRow}
use Rattle.working_out.specs.Keys.{number_before, port_key}
use Rattle.working_out.specs.Edits.{edited_under}
use Rattle.working_out.specs.Marks.{held_up}
use Rattle.working_out.specs.Settling.{Setting, DoneAt, RightHop, Arrives, KnownHop, Advancing}
use Rattle.working_out.proofs.Held.{hop_in, hop_row}
use Rattle.working_out.proofs.Under.{numbers_one, under_here}
use Rattle.working_out.proofs.RowLists.{map_in, at_in, set_in, take_set_in, take_more_in}
use Rattle.working_out.proofs.Arrived.{arrival_right}
use Rattle.working_out.proofs.Quieted.{Quiet, done_before, done_after, worked_quiet, untried_same}

module _ (r : Records) (worth : List Load → ℕ) (s : Setting r worth) (ps : List PortRow) (ls : List LinkRow) (hs : List HopRow) (i n : ℕ)
    (a : Advancing r worth ps ls hs i n) (y : HopRow) (at : Some y ≡ slice_get hs i) where
  in_hops : In y.hop r.hops
  in_hops = hop_in a.known.worked.held y (at_in hs i y at)

  read : get_or hs i y ≡ y
  read = get_or_from_slice_get hs i y y (sym at)

  within : i < length hs
  within = slice_get_within hs i y (sym at)

  -- ## Its arrivals are known

  module _ (e l : ℕ) (told : Arrives ps ls hs y.hop (Some (e, l))) where
    right : (F : Figures) → FiguresOf r worth F → RightHop F record { hop = y.hop; earliest = e; latest = l }
    right F f = arrival_right r worth s F f ps ls hs a.known.worked y.hop in_hops (e, l) told

    comes_after_done : (q : ℕ) → y.hop.after ≡ Some q → Arrives ps ls hs y.hop (Some (e, l)) → DoneAt ps q
    comes_after_done q after (inl (none, z, w)) = no_none (sym none ∙ after)
    comes_after_done q after (inr (b, z, w)) = record {
      row = b.port;
      there = b.port_there;
      number = cc;
      holds = b.done;
    }

    pub advance_known : Advancing r worth ps ls (set hs i record { hop = y.hop; earliest = e; latest = l }) (i + 1) n
    advance_known =
        let old = a.known.worked in
        record {
          known = record {
            worked = record {
              held = record { ports = old.held.ports; links = old.held.links; hops = map-set_same (λ (z : HopRow). z.hop) hs i _ y (cc read) ∙ old.held.hops };
              after_done = old.after_done;
              no_ring = old.no_ring;
              right_ports = old.right_ports;
              past_ports = old.past_ports;
              right_hops = λ F f z j t. grind (arith, set_in hs i record { hop = y.hop; earliest = e; latest = l } z j, right F f, old.right_hops F f z);
            };
            known = λ z j. elim (take_set_in hs i _ z within j) [
              | inl same ↦ subst (KnownHop r worth ps) (sym same) (λ is_open. (right, λ q after. comes_after_done q after told))
              | inr k ↦ a.known.known z k
            ];
          };
          waits = a.waits;
          left = a.left;
        }

  -- ## Its port waits

  module _ (told : Arrives ps ls hs y.hop None) where
    abbrev mark : PortRow → PortRow
    mark = edited_under number_before port_key y.hop.port held_up

    quiet : Quiet mark
    quiet = record {
      port = λ x. grind arith;
      backlog = λ x. grind arith;
      depth_same = λ x. grind arith;
      done_on = λ x e. grind arith;
      done_back = λ x e. grind arith;
      past_back = λ x e. grind arith;
      left = λ x. grind arith;
    }

    -- the port before is not worked out, since the link has a hop there
    not_done : ¬ DoneAt ps told.0
    not_done d =
        let (k, j, same, port) = before_hop r s.well_formed y.hop in_hops told.0 told.1 in
        let (z, there, e) = hop_row a.known.worked.held k j in
        told.2 record {
          port = d.row;
          port_there = d.there;
          done = d.holds;
          after = cc;
          hop = z;
          hop_there = there;
          same_link = cc;
          same_port = cc;
        }

    waits_back : (x : PortRow) → (mark x).progress ≡ Waiting → (x.progress ≡ Waiting) ⊎ (x.port.number ≡ y.hop.port)
    waits_back x e = grind (arith, nat_tests)

    pub advance_waits : Advancing r worth (map mark ps) ls hs (i + 1) n
    advance_waits = record {
      known = record {
        worked = worked_quiet mark quiet ps r worth ls hs a.known.worked;
        known = λ z j t.
            let (x, i', e) = map_in mark ps t.row t.there in
            let number : x.port.number ≡ z.hop.port = cc (quiet.port x) in
            elim (take_more_in hs i y z within j) [
              | inl same ↦ absurd (grind (arith, read, under_here number_before port_key numbers_one y.hop.port held_up x))
              | inr k ↦
                  let (right, after) = a.known.known z k record { row = x; there = i'; number = number; holds = grind arith } in
                  (right, λ q f. done_after mark quiet ps q (after q f))
            ];
      };
      waits = λ z j waiting.
          let (x, i', e) = map_in mark ps z j in
          let number : x.port.number ≡ z.port.number = cc (quiet.port x) in
          elim (waits_back x cc) [
            | inl was ↦
                let w = a.waits x i' was in
                record { hop = w.hop; there = w.there; at = w.at ∙ number; before = w.before; after = w.after; not_done = λ d. w.not_done (done_before mark quiet ps w.before d) }
            | inr same ↦ record {
              hop = y.hop;
              there = in_hops;
              at = sym same ∙ number;
              before = told.0;
              after = told.1;
              not_done = λ d. not_done (done_before mark quiet ps told.0 d);
            }
          ];
      left = untried_same mark quiet ps ∙ a.left;
    }
