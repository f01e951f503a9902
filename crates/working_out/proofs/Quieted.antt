-- Marks that leave what was worked out as it was.
use Rattle.std.proofs.Common.{◌≡◌, ℕ, List, map, refl, ◌∙◌, subst, arith}
use Rattle.definitions.specs.declared.loads.Load.{Load}
use Rattle.definitions.specs.Network.{Records}
use Rattle.theory.proofs.Members.{in_map}
use Rattle.working_out.specs.declared.rows.Progress.TheVariants.{WorkedOut, PastLimit}
use Rattle.working_out.specs.declared.rows.PortRow.{PortRow}
use Rattle.working_out.specs.declared.rows.LinkRow.{LinkRow}
use Rattle.working_out.specs.declared.rows.HopRow.{HopRow}
use Rattle.working_out.specs.Marks.{opened}
use Rattle.working_out.specs.Settling.{Tried, DoneAt, Worked, left_to_try, untried}
use Rattle.working_out.proofs.RowLists.{map_in, map_again, total_same}

pub record Quiet (f : PortRow → PortRow) : Type 0 where
  pub port : (x : PortRow) → (f x).port ≡ x.port
  pub backlog : (x : PortRow) → (f x).backlog ≡ x.backlog
  pub depth_same : (x : PortRow) → (f x).depth ≡ x.depth
  pub done_on : (x : PortRow) → x.progress ≡ WorkedOut → (f x).progress ≡ WorkedOut
  pub done_back : (x : PortRow) → (f x).progress ≡ WorkedOut → x.progress ≡ WorkedOut
  pub past_back : (x : PortRow) → (f x).progress ≡ PastLimit → x.progress ≡ PastLimit
  pub left : (x : PortRow) → left_to_try (f x) ≡ left_to_try x

-- opening the ports that wait is quiet
pub opened_quiet : Quiet opened
opened_quiet = record {
  port = λ x. refl;
  backlog = λ x. refl;
  depth_same = λ x. refl;
  done_on = λ x e. grind arith;
  done_back = λ x e. grind arith;
  past_back = λ x e. grind arith;
  left = λ x. grind arith;
}

-- what quiet marks leave
module _ (f : PortRow → PortRow) (q : Quiet f) (ps : List PortRow) where
  pub done_after : (n : ℕ) → DoneAt ps n → DoneAt (map f ps) n
  done_after n d = record {
    row = f d.row;
    there = in_map f ps d.row d.there;
    number = cc (q.port d.row);
    holds = q.done_on d.row d.holds;
  }

  pub done_before : (n : ℕ) → DoneAt (map f ps) n → DoneAt ps n
  done_before n d =
      let (x, i, e) = map_in f ps d.row d.there in
      record {
        row = x;
        there = i;
        number = cc (q.port x);
        holds = q.done_back x cc;
      }

  pub tried_before : (x : PortRow) → Tried (f x) → Tried x
  tried_before x t = grind (arith, q.done_back x, q.past_back x)

  pub untried_same : untried (map f ps) ≡ untried ps
  untried_same = total_same left_to_try f ps q.left

  module _ (r : Records) (worth : List Load → ℕ) (ls : List LinkRow) (hs : List HopRow) (w : Worked r worth ps ls hs) where
    pub worked_quiet : Worked r worth (map f ps) ls hs
    worked_quiet = record {
      held = record { ports = map_again (λ (x : PortRow). x.port) f ps q.port ∙ w.held.ports; links = w.held.links; hops = w.held.hops };
      after_done = λ y j t h i at n a.
          let (x, k, e) = map_in f ps y j in
          done_after n (w.after_done x k (tried_before x (subst Tried e t)) h i (cc (q.port x)) n a);
      no_ring = λ y j t.
          let (x, k, e) = map_in f ps y j in
          grind (arith, q.port x, tried_before x, w.no_ring x k);
      right_ports = λ F g y j d.
          let (x, k, e) = map_in f ps y j in
          let right = w.right_ports F g x k (q.done_back x cc) in
          record {
            backlog = cc (q.port x, q.backlog x);
            depth_is = cc (q.port x, q.depth_same x);
            within = grind (arith, q.port x, right.within);
          };
      past_ports = λ F g y j d.
          let (x, k, e) = map_in f ps y j in
          grind (arith, q.port x, q.past_back x, w.past_ports F g x k);
      right_hops = λ F g y j t.
          let (x, k, e) = map_in f ps t.row t.there in
          w.right_hops F g y j record { row = x; there = k; number = cc (q.port x); holds = tried_before x (subst Tried e t.holds) };
    }
