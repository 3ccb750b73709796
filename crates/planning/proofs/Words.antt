-- The symbols of a word w' that is w with some erased ones filled in.
--     filled_is            a symbol is as before, or was erased and is now 0 or 1
--     filled-long          the words are equally long
--     filled_iff           the definition, place by place
--     agrees-before        what agrees with w' agrees with w
--     agrees_at            a codeword agrees with a word at each place
--     contrary             what agrees with w and not with w' differs from w' at a place that was filled in
--     filled_word          where an input is filled in, each of its words is
--     erased-before        what is erased in w' is erased in w
--     erased-fetched       w has as many erased symbols more as were filled in
use mathlib.Core.Path.{◌≡◌, refl, sym, ap, ◌∙◌}
use mathlib.Core.Logic.{◌⊎◌, inl, inr, ◌↔◌}
use Prim.Native.Nat.{ℕ, zero, suc, ◌+◌, ◌*◌, ◌^◌, ◌<◌}
use native.Mathlib.Omega.{arith}
use mathlib.Core.Bool.{Bool, true, false, ◌&&◌, ◌||◌, not, false≢true, true≢false}
use mathlib.Core.List.{List, [], ◌∷◌, map}
use lib.ListN.{length, take, drop, get_or}
use lib.Dec.{eqb, ltb}
use borrow.Author.Tests.{eqb-true, ltb-true, eq-eqb}
use Rattle.bits.specs.Vectors.{bit, ones}
use Rattle.bits.proofs.Tests.{and_l, and_r, and_i}
use Rattle.meaning.specs.Codewords.{erased, fits, agrees}
use Rattle.meaning.specs.Stream.{piece_at, word_at}
use Rattle.planning.specs.Filled.{filled, filled_in, fetched}

-- ---- one symbol

two-filled : (b : ℕ) → b < 2 → filled 2 b ≡ true
two-filled zero h = refl
two-filled (suc zero) h = refl
two-filled (suc (suc b)) h = absurd (omega arith)

is-filled : (a b : ℕ) → (a ≡ b) ⊎ ((a ≡ 2) × (b < 2)) → filled a b ≡ true
is-filled a b (inl e) = rw (eq-eqb a b e)
is-filled a b (inr (e, l)) = ap (λ (t : ℕ). filled t b) e ∙ two-filled b l

pub filled_is : (a b : ℕ) → filled a b ≡ true → (a ≡ b) ⊎ ((a ≡ 2) × (b < 2))
filled_is a b h = go (eqb a b) refl h
  where
    go : (e : Bool) → eqb a b ≡ e → e || (eqb a 2 && ltb b 2) ≡ true → (a ≡ b) ⊎ ((a ≡ 2) × (b < 2))
    go true q k = inl (eqb-true a b q)
    go false q k = inr (eqb-true a 2 (and_l (eqb a 2) _ k), ltb-true b 2 (and_r (eqb a 2) _ k))

two_fits : (a : ℕ) (x : Bool) → a ≡ 2 → fits a x ≡ true
two_fits a x e = ap (λ (t : ℕ). fits t x) e

low_read : (b : ℕ) → b < 2 → erased b ≡ false
low_read zero h = refl
low_read (suc zero) h = refl
low_read (suc (suc b)) h = absurd (omega arith)

pub filled_self : (a : ℕ) → filled a a ≡ true
filled_self a = is-filled a a (inl refl)

-- ---- words

pub filled-long : (w w' : List ℕ) → filled_in w w' ≡ true → length w ≡ length w'
filled-long [] [] h = refl
filled-long [] (b ∷ w') h = absurd (false≢true h)
filled-long (a ∷ w) [] h = absurd (false≢true h)
filled-long (a ∷ w) (b ∷ w') h = ap suc (filled-long w w' (and_r (filled a b) _ h))

pub filled_at : (w w' : List ℕ) → filled_in w w' ≡ true → (j : ℕ) → (get_or w j 0 ≡ get_or w' j 0) ⊎ ((get_or w j 0 ≡ 2) × (get_or w' j 0 < 2))
filled_at [] [] f j = inl refl
filled_at [] (b ∷ w') f j = absurd (false≢true f)
filled_at (a ∷ w) [] f j = absurd (false≢true f)
filled_at (a ∷ w) (b ∷ w') f zero = filled_is a b (and_l (filled a b) _ f)
filled_at (a ∷ w) (b ∷ w') f (suc j) = filled_at w w' (and_r (filled a b) _ f) j

at-filled : (w w' : List ℕ) → length w ≡ length w' → ((j : ℕ) → j < length w → (get_or w j 0 ≡ get_or w' j 0) ⊎ ((get_or w j 0 ≡ 2) × (get_or w' j 0 < 2))) → filled_in w w' ≡ true
at-filled [] [] l h = refl
at-filled [] (b ∷ w') l h = absurd (omega arith)
at-filled (a ∷ w) [] l h = absurd (omega arith)
at-filled (a ∷ w) (b ∷ w') l h = and_i _ _ (is-filled a b (h zero (omega arith))) (at-filled w w' (omega arith) (λ j k. h (suc j) (omega arith)))

-- the definition, place by place
pub filled_iff : (w w' : List ℕ) → (filled_in w w' ≡ true) ↔ ((length w ≡ length w') × ((j : ℕ) → j < length w → (get_or w j 0 ≡ get_or w' j 0) ⊎ ((get_or w j 0 ≡ 2) × (get_or w' j 0 < 2))))
filled_iff w w' = (λ f. (filled-long w w' f, λ j l. filled_at w w' f j), λ (l, h). at-filled w w' l h)

-- ---- what agrees

pub agrees-before : (w w' : List ℕ) → filled_in w w' ≡ true → (x : List Bool) → agrees w' x ≡ true → agrees w x ≡ true
agrees-before [] w' f x h = refl
agrees-before (a ∷ w) [] f x h = absurd (false≢true f)
agrees-before (a ∷ w) (b ∷ w') f [] h = refl
agrees-before (a ∷ w) (b ∷ w') f (c ∷ x) h = and_i _ _ (one (filled_is a b (and_l (filled a b) _ f))) (agrees-before w w' (and_r (filled a b) _ f) x (and_r (fits b c) _ h))
  where
    one : (a ≡ b) ⊎ ((a ≡ 2) × (b < 2)) → fits a c ≡ true
    one (inl e) = rw e (and_l (fits b c) _ h)
    one (inr (e, l)) = two_fits a c e

pub agrees_at : (w : List ℕ) (x : List Bool) → agrees w x ≡ true → (j : ℕ) → j < length w → j < length x → fits (get_or w j 0) (get_or x j false) ≡ true
agrees_at [] x h j k m = absurd (omega arith)
agrees_at (a ∷ w) [] h j k m = absurd (omega arith)
agrees_at (a ∷ w) (c ∷ x) h zero k m = and_l (fits a c) _ h
agrees_at (a ∷ w) (c ∷ x) h (suc j) k m = agrees_at w x (and_r (fits a c) _ h) j (omega arith) (omega arith)

-- at place j, which was filled in, x is not what was read
abbrev pub Contrary : List ℕ → List ℕ → List Bool → Type 0
Contrary w w' x = (j : ℕ) × (j < length w) × (get_or w j 0 ≡ 2) × (get_or w' j 0 < 2) × (fits (get_or w' j 0) (get_or x j false) ≡ false)

pub contrary : (w w' : List ℕ) → filled_in w w' ≡ true → (x : List Bool) → length x ≡ length w → agrees w x ≡ true → agrees w' x ≡ false → Contrary w w' x
contrary [] [] f x l p q = absurd (true≢false q)
contrary [] (b ∷ w') f x l p q = absurd (false≢true f)
contrary (a ∷ w) [] f x l p q = absurd (false≢true f)
contrary (a ∷ w) (b ∷ w') f [] l p q = absurd (true≢false q)
contrary (a ∷ w) (b ∷ w') f (c ∷ x) l p q = go (fits b c) refl q (λ k. contrary w w' (and_r (filled a b) _ f) x (omega arith) (and_r (fits a c) _ p) k)
  where
    here : fits b c ≡ false → (a ≡ b) ⊎ ((a ≡ 2) × (b < 2)) → (a ≡ 2) × (b < 2)
    here e (inl k) = absurd (true≢false (sym (and_l (fits a c) _ p) ∙ ap (λ (t : ℕ). fits t c) k ∙ e))
    here e (inr k) = k

    go : (t : Bool) → fits b c ≡ t → t && agrees w' x ≡ false → (agrees w' x ≡ false → Contrary w w' x) → Contrary (a ∷ w) (b ∷ w') (c ∷ x)
    go true e k g = let (j, m, s, t, d) = g k in (suc j, omega arith, s, t, d)
    go false e k g = let (s, t) = here e (filled_is a b (and_l (filled a b) _ f)) in (zero, omega arith, s, t, e)

-- ---- a part of a longer word

filled-take : (i : ℕ) (w w' : List ℕ) → filled_in w w' ≡ true → filled_in (take i w) (take i w') ≡ true
filled-take zero w w' f = refl
filled-take (suc i) [] [] f = refl
filled-take (suc i) [] (b ∷ w') f = absurd (false≢true f)
filled-take (suc i) (a ∷ w) [] f = absurd (false≢true f)
filled-take (suc i) (a ∷ w) (b ∷ w') f = and_i _ _ (and_l (filled a b) _ f) (filled-take i w w' (and_r (filled a b) _ f))

filled-drop : (i : ℕ) (w w' : List ℕ) → filled_in w w' ≡ true → filled_in (drop i w) (drop i w') ≡ true
filled-drop zero w w' f = f
filled-drop (suc i) [] [] f = refl
filled-drop (suc i) [] (b ∷ w') f = absurd (false≢true f)
filled-drop (suc i) (a ∷ w) [] f = absurd (false≢true f)
filled-drop (suc i) (a ∷ w) (b ∷ w') f = filled-drop i w w' (and_r (filled a b) _ f)

-- word k of an input
pub filled_word : (n : ℕ) (input input' : List ℕ) → filled_in input input' ≡ true → (k : ℕ) → filled_in (word_at n input k) (word_at n input' k) ≡ true
unfolding piece_at
filled_word n input input' f k = filled-take (2 ^ n) _ _ (filled-drop (k * 2 ^ n) input input' f)

-- ---- erased symbols

-- what es' erases, es erases
abbrev pub Fewer : List Bool → List Bool → Type 0
Fewer [] [] = Unit {0}
Fewer [] (e ∷ es) = ⊥
Fewer (e ∷ es') [] = ⊥
Fewer (e' ∷ es') (e ∷ es) = (e' ≡ true → e ≡ true) × Fewer es' es

pub erased-before : (w w' : List ℕ) → filled_in w w' ≡ true → Fewer (map erased w') (map erased w)
erased-before [] [] f = tt
erased-before [] (b ∷ w') f = absurd (false≢true f)
erased-before (a ∷ w) [] f = absurd (false≢true f)
erased-before (a ∷ w) (b ∷ w') f = (one (filled_is a b (and_l (filled a b) _ f)), erased-before w w' (and_r (filled a b) _ f))
  where
    one : (a ≡ b) ⊎ ((a ≡ 2) × (b < 2)) → erased b ≡ true → erased a ≡ true
    one (inl e) k = ap erased e ∙ k
    one (inr (e, l)) k = ap erased e

pub erased-fetched : (w w' : List ℕ) → filled_in w w' ≡ true → ones (map erased w) ≡ ones (map erased w') + fetched w w'
erased-fetched [] [] f = refl
erased-fetched [] (b ∷ w') f = absurd (false≢true f)
erased-fetched (a ∷ w) [] f = absurd (false≢true f)
erased-fetched (a ∷ w) (b ∷ w') f = omega (arith, one (eqb a b) refl (and_l (filled a b) _ f), erased-fetched w w' (and_r (filled a b) _ f))
  where
    one : (e : Bool) → eqb a b ≡ e → e || (eqb a 2 && ltb b 2) ≡ true → bit (erased a) ≡ bit (erased b) + bit (not e)
    one true q k = ap (λ (t : ℕ). bit (erased t)) (eqb-true a b q) ∙ omega arith
    one false q k =
        ap (λ (t : ℕ). bit (erased t)) (eqb-true a 2 (and_l (eqb a 2) _ k)) ∙ rw (low_read b (ltb-true b 2 (and_r (eqb a 2) _ k)))
