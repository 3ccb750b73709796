-- Successive decoding: the symbol that reaches each position, once the positions before it are known.
--     leaf             these symbols, for a block's symbols w and bits u
--     length_leaf      one for each position
--     agrees_leaf      the transform of u agrees with w where u agrees with them
--     lost_leaf        an open position is one that an erased symbol reaches
use mathlib.Core.Path.{◌≡◌, sym, ap, ap₂, ◌∙◌, subst, refl}
use Prim.Native.Nat.{ℕ, zero, suc, ◌^◌}
use native.Mathlib.Omega.{arith}
use mathlib.Core.Bool.{Bool, ◌&&◌}
use mathlib.Core.List.{List, ◌++◌, map, map-append}
use mathlib.Core.Option.{Option}
use lib.ListN.{length, take, drop, length-append, length-take, length-drop, length-map, take-append-drop}
use lib.Seq.{take_at, drop_at}
use Rattle.meaning.specs.Transform.{polar}
use Rattle.meaning.specs.Open.{opens}
use Rattle.meaning.proofs.Polar.{splits, length-polar}
use Rattle.meaning.proofs.Open.{opens_append}
use Rattle.model.specs.Model.{left_syms, right_syms}
use Rattle.model.specs.AtBits.{bits}
use Rattle.model.specs.Counted.{lost}
use Rattle.model.proofs.Halves.{length_lefts, length_rights, lost_lefts, lost_rights, agrees_syms, agrees_append, agrees_halves}

module _ (t : ℕ → Bool) where
  -- those of the left half, then those of the right half, once the left one is known
  unfoldable pub leaf : ℕ → List (Option Bool) → List Bool → List (Option Bool)
  leaf zero w u = w
  leaf (suc n) w u =
      let a = take (2 ^ n) w in
      let b = drop (2 ^ n) w in
      let p = take (2 ^ n) u in
      leaf n (left_syms (bits t) a b) p ++ leaf n (right_syms (bits t) a b (polar n p)) (drop (2 ^ n) u)

  pub leaf_append : (n : ℕ) (a b : List (Option Bool)) (p q : List Bool) → length a ≡ 2 ^ n → length p ≡ 2 ^ n
      → leaf (suc n) (a ++ b) (p ++ q) ≡ leaf n (left_syms (bits t) a b) p ++ leaf n (right_syms (bits t) a b (polar n p)) q
  unfolding leaf
  leaf_append n a b p q la lp = rw (take_at a b (2 ^ n) la, drop_at a b (2 ^ n) la, take_at p q (2 ^ n) lp, drop_at p q (2 ^ n) lp)

  -- what holds of the halves of a block's symbols holds of the block's
  in_halves : (n : ℕ) (P : List (Option Bool) → Type 0) → ((a b : List (Option Bool)) → length a ≡ 2 ^ n → length b ≡ 2 ^ n → P (a ++ b))
      → (w : List (Option Bool)) → length w ≡ 2 ^ suc n → P w
  in_halves n P f w h =
      subst P (take-append-drop (2 ^ n) w) (f (take (2 ^ n) w) (drop (2 ^ n) w) (simp length-take (omega arith)) (simp length-drop (omega arith)))

  pub length_leaf : (n : ℕ) (u : List Bool) → length u ≡ 2 ^ n → (w : List (Option Bool)) → length w ≡ 2 ^ n → length (leaf n w u) ≡ 2 ^ n
  unfolding leaf
  length_leaf = splits (λ n u. (w : List (Option Bool)) → length w ≡ 2 ^ n → length (leaf n w u) ≡ 2 ^ n) (λ b w h. h)
      (λ n ih p q lp lq. in_halves n (λ w. length (leaf (suc n) w (p ++ q)) ≡ 2 ^ suc n)
      (λ a b la lb. rw (leaf_append n a b p q la lp, length-append)
      (omega (
        arith,
        ih p lp (left_syms (bits t) a b) (length_lefts (bits t) (2 ^ n) a b la lb),
        ih q lq (right_syms (bits t) a b (polar n p)) (length_rights (bits t) (2 ^ n) a b (polar n p) la lb (length-polar n p lp)),
      ))))

  pub agrees_leaf : (n : ℕ) (u : List Bool) → length u ≡ 2 ^ n → (w : List (Option Bool)) → length w ≡ 2 ^ n → agrees_syms w (polar n u) ≡ agrees_syms (leaf n w u) u
  unfolding leaf polar
  agrees_leaf = splits (λ n u. (w : List (Option Bool)) → length w ≡ 2 ^ n → agrees_syms w (polar n u) ≡ agrees_syms (leaf n w u) u) (λ b w h. refl)
      (λ n ih p q lp lq. in_halves n (λ w. agrees_syms w (polar (suc n) (p ++ q)) ≡ agrees_syms (leaf (suc n) w (p ++ q)) (p ++ q))
      (λ a b la lb.
      let l = left_syms (bits t) a b in
      let r = right_syms (bits t) a b (polar n p) in
      let ll = length_lefts (bits t) (2 ^ n) a b la lb in
      agrees_halves t n a b p q la lb lp lq ∙ ap₂ ◌&&◌ (ih p lp l ll) (ih q lq r (length_rights (bits t) (2 ^ n) a b (polar n p) la lb (length-polar n p lp)))
      ∙ sym (ap (λ (x : List (Option Bool)). agrees_syms x (p ++ q)) (leaf_append n a b p q la lp) ∙ agrees_append (leaf n l p) (leaf n r q) p q (length_leaf n p lp l ll ∙ sym lp))))

  -- whatever the bits before it
  pub lost_leaf : (n : ℕ) (u : List Bool) → length u ≡ 2 ^ n → (w : List (Option Bool)) → length w ≡ 2 ^ n → map lost (leaf n w u) ≡ opens n (map lost w)
  unfolding leaf opens
  lost_leaf = splits (λ n u. (w : List (Option Bool)) → length w ≡ 2 ^ n → map lost (leaf n w u) ≡ opens n (map lost w)) (λ b w h. refl)
      (λ n ih p q lp lq. in_halves n (λ w. map lost (leaf (suc n) w (p ++ q)) ≡ opens (suc n) (map lost w))
      (λ a b la lb.
      let l = left_syms (bits t) a b in
      let r = right_syms (bits t) a b (polar n p) in
      ap (map lost) (leaf_append n a b p q la lp) ∙ map-append lost (leaf n l p) (leaf n r q)
      ∙ ap₂ {C = List Bool} ◌++◌ (ih p lp l (length_lefts (bits t) (2 ^ n) a b la lb) ∙ ap (opens n) (lost_lefts (bits t) a b))
      (ih q lq r (length_rights (bits t) (2 ^ n) a b (polar n p) la lb (length-polar n p lp)) ∙ ap (opens n) (lost_rights (bits t) a b (polar n p) (la ∙ sym (length-polar n p lp))))
      ∙ sym (ap (opens (suc n)) (map-append lost a b) ∙ opens_append n (map lost a) (map lost b) (length-map a lost ∙ la))))
