-- What turning a part of a list by some places leaves.
use Rattle.std.proofs.Common.{◌≡◌, ℕ, ◌+◌, ◌-◌, ◌<◌, ◌≤◌, List, [], ◌∷◌, ◌++◌, length, take, drop, set, sym, ap, ◌∙◌, arith, length-set}
use borrow.Rule.Slice.PartMut.{put_mid}
use Rattle.std.specs.List.{between, insert}
use Rattle.std.proofs.lemmas.List.{take_more_set, drop-append-le, length-take-le, length-drop, length_push, take_at, drop_at, take-take, take-set-le}
use Rattle.std.proofs.lemmas.Slice.{between_is, take-put_mid}

module _ {X : Type 0} (xs : List X) (i n : ℕ) (x : X) (le : i ≤ n) (lt : n < length xs) where
  -- the part that is turned: the last of it is the new item
  part_is : between i (n + 1) (set xs n x) ≡ drop i (take n xs) ++ x ∷ []
  part_is =
      let long = length-take-le n xs (omega arith) in
      between_is (set xs n x) i (n + 1) ∙ ap (drop i) (take_more_set xs n x lt) ∙ drop-append-le i (take n xs) (x ∷ []) (omega arith)

  pub put_in : (zs : List X)
      → zs ≡ drop (length (between i (n + 1) (set xs n x)) - 1) (between i (n + 1) (set xs n x)) ++ take (length (between i (n + 1) (set xs n x)) - 1) (between i (n + 1) (set xs n x))
      → take (n + 1) (put_mid i (n + 1 - i) (set xs n x) zs) ≡ insert (take n xs) i x
  put_in zs e =
      let ys = drop i (take n xs) in
      let long : length ys ≡ n - i = omega (arith, length-drop i (take n xs), length-take-le n xs (omega arith)) in
      let m : length (ys ++ x ∷ []) - 1 ≡ length ys = omega (arith, length_push ys x) in
      let turn : List X → List X = λ l. drop (length l - 1) l ++ take (length l - 1) l in
      let at-end : (k : ℕ) → k ≡ length ys → drop k (ys ++ x ∷ []) ++ take k (ys ++ x ∷ []) ≡ x ∷ ys
      = λ k h. ap (λ l. l ++ take k (ys ++ x ∷ [])) (drop_at ys (x ∷ []) k (sym h)) ∙ ap (λ l. x ∷ l) (take_at ys (x ∷ []) k (sym h)) in
      let z : zs ≡ x ∷ ys = e ∙ ap turn part_is ∙ at-end (length (ys ++ x ∷ []) - 1) m in
      let size : n + 1 ≡ i + length zs = omega (arith, ap length z) in
      take-put_mid i (n + 1 - i) (set xs n x) zs (n + 1) size (omega (arith, length-set xs n x))
      ∙ ap (λ l. l ++ zs) (take-set-le i xs n x le ∙ sym (take-take i n xs le))
      ∙ ap (λ l. take i (take n xs) ++ l) z
