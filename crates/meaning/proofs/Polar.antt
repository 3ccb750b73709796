-- The transform: its lengths, that it is linear, and that it is its own inverse.
--     splits, halves            induction on vectors of 2 ^ n bits
--     polar-⊞                   linear
--     polar-polar               its own inverse
use mathlib.Core.Path.{◌≡◌, refl, sym, ◌∙◌, subst}
use Prim.Native.Nat.{ℕ, zero, suc, ◌^◌}
use native.Mathlib.Omega.{arith}
use mathlib.Core.Bool.{Bool}
use mathlib.Core.List.{List, [], ◌∷◌, ◌++◌}
use lib.ListN.{length, take, drop, length-append, length-take, length-drop, take-append-drop}
use lib.Seq.{take_at, drop_at}
use Rattle.bits.specs.Vectors.{◌⊞◌}
use Rattle.bits.proofs.Xor.{⊞-swap, length-⊞, ⊞-cancel, take-⊞, drop-⊞, append_⊞}
use Rattle.meaning.specs.Transform.{polar}

-- a vector of 2 ^ (n + 1) bits is two of 2 ^ n: what holds of all vectors of 2 ^ n bits carries over
pub splits : (P : ℕ → List Bool → Type 0) → ((b : Bool) → P zero (b ∷ []))
    → ((n : ℕ) → ((u : List Bool) → length u ≡ 2 ^ n → P n u) → (a b : List Bool) → length a ≡ 2 ^ n → length b ≡ 2 ^ n → P (suc n) (a ++ b))
    → (n : ℕ) (u : List Bool) → length u ≡ 2 ^ n → P n u
splits P one two zero [] h = absurd (omega arith)
splits P one two zero (b ∷ []) h = one b
splits P one two zero (b ∷ c ∷ u) h = absurd (omega arith)
splits P one two (suc n) u h =
    subst (P (suc n)) (take-append-drop (2 ^ n) u)
    (two n (splits P one two n) (take (2 ^ n) u) (drop (2 ^ n) u) (simp length-take (omega arith)) (simp length-drop (omega arith)))

pub halves : (P : ℕ → List Bool → Type 0) → ((b : Bool) → P zero (b ∷ []))
    → ((n : ℕ) (a b : List Bool) → length a ≡ 2 ^ n → length b ≡ 2 ^ n → P n a → P n b → P (suc n) (a ++ b))
    → (n : ℕ) (u : List Bool) → length u ≡ 2 ^ n → P n u
halves P one two = splits P one (λ n ih a b la lb. two n a b la lb (ih a la) (ih b lb))

pub polar_append : (n : ℕ) (a b : List Bool) → length a ≡ 2 ^ n → polar (suc n) (a ++ b) ≡ (polar n a ⊞ polar n b) ++ polar n b
unfolding polar
polar_append n a b h = rw (take_at a b (2 ^ n) h, drop_at a b (2 ^ n) h)

pub length-polar : (n : ℕ) (u : List Bool) → length u ≡ 2 ^ n → length (polar n u) ≡ 2 ^ n
unfolding polar
length-polar = halves (λ n u. length (polar n u) ≡ 2 ^ n) (λ b. refl)
    (λ n a b ha hb la lb. rw (polar_append n a b ha, length-append, length-⊞ (polar n a) (polar n b) (la ∙ sym lb)) (omega arith))

pub polar-⊞ : (n : ℕ) (u v : List Bool) → length u ≡ 2 ^ n → length v ≡ 2 ^ n → polar n (u ⊞ v) ≡ polar n u ⊞ polar n v
unfolding polar
polar-⊞ zero u v hu hv = refl
polar-⊞ (suc n) u v hu hv =
    let t : (w : List Bool) → length w ≡ 2 ^ suc n → length (take (2 ^ n) w) ≡ 2 ^ n = λ w h. simp length-take (omega arith) in
    let d : (w : List Bool) → length w ≡ 2 ^ suc n → length (drop (2 ^ n) w) ≡ 2 ^ n = λ w h. simp length-drop (omega arith) in
    let a = polar n (take (2 ^ n) u) in let b = polar n (drop (2 ^ n) u) in
    let a' = polar n (take (2 ^ n) v) in let b' = polar n (drop (2 ^ n) v) in
    let la : length a ≡ 2 ^ n = length-polar n (take (2 ^ n) u) (t u hu) in
    let lb : length b ≡ 2 ^ n = length-polar n (drop (2 ^ n) u) (d u hu) in
    let la' : length a' ≡ 2 ^ n = length-polar n (take (2 ^ n) v) (t v hv) in
    let lb' : length b' ≡ 2 ^ n = length-polar n (drop (2 ^ n) v) (d v hv) in
    let l : length (a ⊞ b) ≡ length (a' ⊞ b') = length-⊞ a b (cc) ∙ la ∙ sym la' ∙ sym (length-⊞ a' b' (cc)) in
    rw (take-⊞, drop-⊞, polar-⊞ n (take (2 ^ n) u) (take (2 ^ n) v) (t u hu) (t v hv), polar-⊞ n (drop (2 ^ n) u) (drop (2 ^ n) v) (d u hu) (d v hv), ⊞-swap a a' b b')
    (sym (append_⊞ (a ⊞ b) b (a' ⊞ b') b' l))

pub polar-polar : (n : ℕ) (u : List Bool) → length u ≡ 2 ^ n → polar n (polar n u) ≡ u
unfolding polar
polar-polar = halves (λ n u. polar n (polar n u) ≡ u) (λ b. refl)
    (λ n a b ha hb ia ib.
    let la = length-polar n a ha in
    let lb = length-polar n b hb in
    let l = length-⊞ (polar n a) (polar n b) (la ∙ sym lb) in
    rw (
      polar_append n a b ha,
      take_at (polar n a ⊞ polar n b) (polar n b) (2 ^ n) (l ∙ la),
      drop_at (polar n a ⊞ polar n b) (polar n b) (2 ^ n) (l ∙ la),
      polar-⊞ n (polar n a) (polar n b) la lb,
      ia,
      ib,
      ⊞-cancel a b (ha ∙ sym hb),
    ))
