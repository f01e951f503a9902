-- RingMarks: the ports that a port feeds, marked in their rows.
use Rattle.std.proofs.Common.{◌≡◌, ℕ, ◌+◌, ◌<◌, ◌≤◌, Bool, true, false, cond, ◌||◌, not, List, [], ◌∷◌, ◌++◌, map, length, Some, None, Decides, Option, MatchOption, IsTrue, ◌↔◌, sym, refl, ap, ◌∙◌, subst, inl, inr, arith}
use Rattle.std.specs.List.{AllByRecursion}
use Rattle.std.proofs.lemmas.Bool.{not-true}
use Rattle.std.proofs.ByRecursion.{All-push}
use Rattle.definitions.specs.Lists.{In, ascending}
use Rattle.definitions.specs.Network.{direct, through}
use Rattle.theory.proofs.Members.{in_map, in_all, all_in, total_map, total_less}
use Rattle.register.specs.Registers.{rows, by_key, Getting}
use Rattle.working_out.specs.declared.rows.PortRow.{PortRow}
use Rattle.working_out.specs.declared.rows.HopRow.{HopRow}
use Rattle.working_out.specs.Keys.{number_before, port_key, Ports}
use Rattle.working_out.specs.Edits.{EditsAll, edited_under}
use Rattle.working_out.specs.Rings.{marked, unmarked, Remarked, Marked, unmarked_count, Marks, FedBy, Reached, Sound, Passed, Comes, Spreads, SpreadsAll, Homed, FeedsItself}
use Rattle.working_out.proofs.RowLists.{map_in, map_again, in_left, in_right}
use Rattle.working_out.proofs.Tabled.{one_row}
use Rattle.working_out.proofs.Under.{numbers_one, under_here, under_cases}

-- ## Rows that differ in their marks only

-- what does not read the marks is the same of both
pub same_of_marks : {Y : Type 0} (f : PortRow → Y) → ((x : PortRow) → f (unmarked x) ≡ f x)
    → (xs ys : List PortRow) → map unmarked ys ≡ map unmarked xs → map f ys ≡ map f xs
same_of_marks f blind xs ys e = sym (map_again f unmarked ys blind) ∙ ap (map f) e ∙ map_again f unmarked xs blind

pub ports_of_marks : (xs ys : List PortRow) → map unmarked ys ≡ map unmarked xs
    → map (λ (x : PortRow). x.port) ys ≡ map (λ (x : PortRow). x.port) xs
ports_of_marks = same_of_marks (λ (x : PortRow). x.port) (λ x. refl)

-- a row of one stands in the other, but for its mark
pub row_of_marks : (xs ys : List PortRow) → map unmarked ys ≡ map unmarked xs → (x : PortRow) → In x xs
    → (y : PortRow) × In y ys × (unmarked x ≡ unmarked y)
row_of_marks xs ys e x i = map_in unmarked ys (unmarked x) (subst (In (unmarked x)) (sym e) (in_map unmarked xs x i))

pub remarked_on : (t u v : Ports) → Remarked t u → Remarked u v → Remarked t v
remarked_on t u v a b = record {
  same_room = b.same_room ∙ a.same_room;
  marks_only = b.marks_only ∙ a.marks_only;
}

-- each hop still stands at the port of a row
pub homed_of_marks : (xs ys : List PortRow) → map unmarked ys ≡ map unmarked xs → (hs : List HopRow) → Homed xs hs → Homed ys hs
homed_of_marks xs ys e hs homed h i =
    let (x, j, f) = homed h i in
    let (y, k, g) = row_of_marks xs ys e x j in
    (y, k, grind arith)

-- ## Marks of one port

-- what the row under the port's number says
pub marked_by : (p : ℕ) (xs : List PortRow) → ascending (by_key number_before port_key) xs ≡ true → (o : Option PortRow) → Getting port_key xs p o
    → (b : Bool) → MatchOption o (b ≡ false) (λ row. b ≡ row.fed) → IsTrue b ↔ Marked xs p
marked_by p xs up (Some row) (i, e) b is = (
  λ t. (row, i, e, cc),
  λ m. let (x, j, k, f) = m in cc (one_row xs up row x i j (e ∙ sym k)),
)
marked_by p xs up None none b is = (λ t. cc, λ m. absurd (none m.0 m.1 m.2))

not_false : (b : Bool) → not b ≡ false → b ≡ true
not_false true e = refl
not_false false e = sym e

-- what it says where there is to be a row without a mark
pub unmarked_by : (p : ℕ) (xs : List PortRow) → ascending (by_key number_before port_key) xs ≡ true → (o : Option PortRow) → Getting port_key xs p o
    → (b : Bool) → MatchOption o (b ≡ false) (λ row. b ≡ not row.fed)
    → (b ≡ true → (x : PortRow) × In x xs × (port_key x ≡ p) × (x.fed ≡ false)) × (b ≡ false → (x : PortRow) → In x xs → port_key x ≡ p → x.fed ≡ true)
unmarked_by p xs up (Some row) (i, e) b is = (
  λ t. (row, i, e, not-true row.fed (sym is ∙ t)),
  λ f x j k. ap (λ (y : PortRow). y.fed) (one_row xs up x row j i (k ∙ sym e)) ∙ not_false row.fed (sym is ∙ f),
)
unmarked_by p xs up None none b is = (λ t. cc, λ f x j k. absurd (none x j k))

-- ## Spreading

-- a row after the port p was marked
abbrev after_mark : ℕ → PortRow → PortRow
after_mark p = edited_under number_before port_key p (marked true)

marks_only_after : (p : ℕ) (xs : List PortRow) → map unmarked (map (after_mark p) xs) ≡ map unmarked xs
marks_only_after p xs = map_again unmarked (after_mark p) xs (λ x. grind arith)

abbrev weight : PortRow → ℕ
weight x = cond x.fed 0 1

-- a mark more is a row without a mark less
one_less : (p : ℕ) (xs : List PortRow) (x : PortRow) → In x xs → port_key x ≡ p → x.fed ≡ false
    → unmarked_count (map (after_mark p) xs) < unmarked_count xs
one_less p xs x i e f =
    let here : weight (after_mark p x) < weight x = grind (arith, under_here number_before port_key numbers_one p (marked true) x e) in
    omega (arith, total_map weight (after_mark p) xs, total_less (λ y. weight (after_mark p y)) weight xs (λ y j. grind arith) x i here)

-- a hop after a port that is reached leads to a port that is fed
fed_on : (hs : List HopRow) (p : ℕ) (xs : List PortRow) (h : HopRow) (q : ℕ) → Sound hs p xs → In h hs → h.hop.after ≡ Some q → Reached p xs q → FedBy hs p h.hop.port
fed_on hs p xs h q sound i a reached =
    let next : FedBy hs q h.hop.port = direct (record { hop = h.hop; there = in_map (λ (x : HopRow). x.hop) hs h i; at = refl; after = a }) in
    elim reached [
      | inl e ↦ subst (λ m. FedBy hs m h.hop.port) e next
      | inr (x, j, k, m) ↦ through (subst (FedBy hs p) k (sound x j m)) next
    ]

-- a mark at a port that is fed is sound
sound_mark : (hs : List HopRow) (p n : ℕ) (xs : List PortRow) → Sound hs p xs → FedBy hs p n → Sound hs p (map (after_mark n) xs)
sound_mark hs p n xs sound fed y i m =
    let (x, j, e) = map_in (after_mark n) xs y i in
    grind (arith, sound x j, under_cases number_before port_key numbers_one n (marked true) x)

-- a hop that marks nothing
spreads_none : (h : HopRow) (p : ℕ) (t : Ports) → (Passed p (rows t) h) → Spreads (h ∷ []) p t t false
spreads_none h p t passed = record {
  remarked = record { same_room = refl; marks_only = refl };
  sound = λ ks within old. old;
  comes = (refl, (passed, tt));
}

-- a hop after a port that is reached
pub spreads_next : (h : HopRow) (p q : ℕ) (t u : Ports) (b : Bool) → h.hop.after ≡ Some q → (Reached p (rows t) q)
    → Marks h.hop.port t u b → Spreads (h ∷ []) p t u b
spreads_next h p q t u true a reached (room, (x, i, e, f), is) = record {
  remarked = record { same_room = room; marks_only = ap (map unmarked) is ∙ marks_only_after h.hop.port (rows t) };
  sound = λ ks within old.
      subst (Sound ks p) (sym is) (sound_mark ks p h.hop.port (rows t) old (fed_on ks p (rows t) h q old (within h (inl refl)) a reached));
  comes = omega (arith, ap unmarked_count is, one_less h.hop.port (rows t) x i e f);
}
spreads_next h p q t u false a reached (same, all) =
    rw same (spreads_none h p t (λ m b c x i e. all x i e))

comes_on : (hs : List HopRow) (h : HopRow) (p : ℕ) (t u v : Ports) (a b : Bool)
    → Comes hs p t u a → Comes (h ∷ []) p u v b → Comes (hs ++ (h ∷ [])) p t v (a || b)
comes_on hs h p t u v true b less y = grind arith
comes_on hs h p t u v false true (same, passed) less = grind arith
comes_on hs h p t u v false false (same, passed) (also, here) =
    (also ∙ same, All-push (Passed p (rows t)) hs h passed (subst (λ (x : Ports). Passed p (rows x) h) same here.0))

-- one hop more
pub spreads_on : (hs : List HopRow) (h : HopRow) (p : ℕ) (t u v : Ports) (a b : Bool)
    → Spreads hs p t u a → Spreads (h ∷ []) p u v b → Spreads (hs ++ (h ∷ [])) p t v (a || b)
spreads_on hs h p t u v a b x y = record {
  remarked = remarked_on t u v x.remarked y.remarked;
  sound = λ ks within old.
      y.sound ks (λ k i. within k (in_right hs (h ∷ []) k i)) (x.sound ks (λ k i. within k (in_left hs (h ∷ []) k i)) old);
  comes = comes_on hs h p t u v a b x.comes y.comes;
}

-- ## Spreading until nothing is added

-- each of i passes marked a row
abbrev pub Spreading : List HopRow → ℕ → Ports → ℕ → Ports → Type 0
Spreading hs p t i u =
    Remarked t u
    × (Sound hs p (rows t) → Sound hs p (rows u))
    × (unmarked_count (rows u) + i ≤ length (rows t))

-- no more rows are without a mark than there are
pub few_unmarked : (xs : List PortRow) → unmarked_count xs ≤ length xs
few_unmarked [] = omega arith
few_unmarked (x ∷ xs) = grind (arith, few_unmarked xs)

-- where no row is without a mark, all are marked
all_marked : (xs : List PortRow) → unmarked_count xs ≡ 0 → (x : PortRow) → In x xs → x.fed ≡ true
all_marked [] e x i = absurd i
all_marked (y ∷ xs) e x i = grind (arith, all_marked xs)

-- after as many passes as there are rows all are marked
pub spread_out : (hs : List HopRow) (p : ℕ) (t u : Ports) (i : ℕ) → Spreading hs p t i u → length (rows t) ≤ i → SpreadsAll hs p t u
spread_out hs p t u i so_far le = record {
  remarked = so_far.0;
  sound = so_far.1;
  passed = all_in (Passed p (rows u)) hs (λ h j q a reached x k e. all_marked (rows u) (omega (arith, le, so_far.2)) x k);
}

-- ## Trying one port

-- without a mark all marks are sound
pub cleared : (hs : List HopRow) (p : ℕ) (t u : Ports) → EditsAll number_before port_key (marked false) t u → Remarked t u × Sound hs p (rows u)
cleared hs p t u h =
    let is : rows u ≡ map unmarked (rows t) = h.edited (λ r. refl) in (
      record { same_room = h.same_room; marks_only = ap (map unmarked) is ∙ map_again unmarked unmarked (rows t) (λ x. refl) },
      λ x i m.
          let (y, j, e) = map_in unmarked (rows t) x (subst (In x) is i) in
          cc,
    )

-- where every hop is passed, all that a reached port feeds is marked
fed_marked : (hs : List HopRow) (p : ℕ) (xs : List PortRow) → Homed xs hs → AllByRecursion (Passed p xs) hs → {q n : ℕ} → FedBy hs q n → Reached p xs q → Marked xs n
fed_marked hs p xs homed passed (direct {q = q} f) reached =
    let (h, i, e) = map_in (λ (x : HopRow). x.hop) hs f.hop f.there in
    let (x, j, k) = homed h i in
    (x, j, cc, in_all (Passed p xs) hs passed h i q (cc) reached x j k)
fed_marked hs p xs homed passed (through a b) reached =
    fed_marked hs p xs homed passed b (inr (fed_marked hs p xs homed passed a reached))

-- the marks after the last pass
pub tried : (hs : List HopRow) (p : ℕ) (t u v : Ports) (found : Bool) → Remarked t u → Sound hs p (rows u)
    → SpreadsAll hs p u v → (Decides found (Marked (rows v) p)) → FeedsItself hs p t v found
tried hs p t u v found marks sound all is =
    let marks-all = remarked_on t u v marks all.remarked in
    record {
      remarked = marks-all;
      told = λ homed. (
        λ e.
            let (x, i, k, m) = is.0 e in
            subst (FedBy hs p) k (all.sound sound x i m),
        λ ring.
            let still = homed_of_marks (rows t) (rows v) marks-all.marks_only hs homed in
            is.1 (fed_marked hs p (rows v) still all.passed ring (inl refl)),
      );
    }
