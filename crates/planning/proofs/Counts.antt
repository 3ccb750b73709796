-- The counts g and m of a word w' that is w with some erased symbols filled in.
--     fewer_open          what w' leaves open, w leaves open
--     fewer_unknowns      g is no larger
--     more_equations      m is no smaller
--     balance             of any word, m and the number of erased symbols are N - K + r + g
--     counts-moved        so m - g rises by as many as were filled in
--     unknowns_each       and g falls by no more
use mathlib.Core.Path.{◌≡◌, refl, sym, ◌∙◌}
use Prim.Native.Nat.{ℕ, zero, suc, ◌+◌, ◌^◌, ◌≤◌}
use native.Mathlib.Omega.{arith}
use mathlib.Core.Bool.{Bool, true, false, ◌&&◌, ◌||◌, not}
use mathlib.Core.List.{List, [], ◌∷◌, map}
use lib.ListN.{length, get_or, take}
use Rattle.bits.specs.Vectors.{bit, tab, ones, zeros}
use Rattle.bits.proofs.Rising.{any-bits, bits-any}
use Rattle.bits.proofs.Tests.{and_l, and_r, and_i, length-tab}
use Rattle.meaning.specs.Codewords.{erased}
use Rattle.meaning.specs.Open.{is_open_d, open_diff, is_open, clear, open_free, closed_frozen, open_all, unknowns, equations}
use Rattle.meaning.specs.Sheet.{Rule, free, frozen, frees}
use Rattle.meaning.specs.Transform.{polar}
use Rattle.meaning.proofs.Open.{open_diff_lem}
use Rattle.meaning.proofs.Gap.{open_erased}
use Rattle.planning.specs.Filled.{filled_in, fetched}
use Rattle.planning.proofs.Words.{Fewer, filled-long, erased-before, erased-fetched}

-- ---- fewer positions are open

clear-before : (es' es x : List Bool) → Fewer es' es → clear es' x ≡ true → clear es x ≡ true
clear-before [] [] x f h = refl
clear-before [] (e ∷ es) x f h = absurd f
clear-before (e' ∷ es') [] x f h = absurd f
clear-before (e' ∷ es') (e ∷ es) [] f h = refl
clear-before (e' ∷ es') (e ∷ es) (b ∷ x) f h = and_i _ _ (one e' e b f.0 (and_l (e' || not b) _ h)) (clear-before es' es x f.1 (and_r (e' || not b) _ h))
  where
    one : (s t b : Bool) → (s ≡ true → t ≡ true) → s || not b ≡ true → t || not b ≡ true
    one true t b g k = rw (g refl)
    one false true b g k = refl
    one false false b g k = k

pub fewer_open : (n : ℕ) (es' es : List Bool) (i : ℕ) → Fewer es' es → is_open n es' i ≡ true → is_open n es i ≡ true
unfolding is_open_d open_diff
fewer_open n es' es i f h =
    let (d, ld, hd) = any-bits (open_diff n es' i) (2 ^ n) (sym (open_diff_lem n es' i) ∙ h) in
    open_diff_lem n es i ∙ bits-any (open_diff n es i) (2 ^ n) d ld
    (and_i _ _ (and_l (zeros (take i d) && get_or d i false) _ hd) (clear-before es' es (polar n d) f (and_r (zeros (take i d) && get_or d i false) _ hd)))

fewer_tab : (n : ℕ) (p' p : ℕ → Bool) → ((i : ℕ) → p' i ≡ true → p i ≡ true) → Fewer (tab n p') (tab n p)
fewer_tab zero p' p h = tt
fewer_tab (suc n) p' p h = (h zero, fewer_tab n (λ (i : ℕ). p' (suc i)) (λ (i : ℕ). p (suc i)) (λ i. h (suc i)))

fewer_all : (n : ℕ) (w w' : List ℕ) → filled_in w w' ≡ true → Fewer (open_all n w') (open_all n w)
unfolding open_all
fewer_all n w w' f = fewer_tab (2 ^ n) (is_open n (map erased w')) (is_open n (map erased w)) (λ i. fewer_open n (map erased w') (map erased w) i (erased-before w w' f))

-- ---- g and m

fewer_bit : (a b : Bool) → (a ≡ true → b ≡ true) → bit a ≤ bit b
fewer_bit true b h = rw (h refl) (omega arith)
fewer_bit false b h = omega arith

more_bit : (a b : Bool) → (a ≡ true → b ≡ true) → bit (not b) ≤ bit (not a)
more_bit true b h = rw (h refl) (omega arith)
more_bit false true h = omega arith
more_bit false false h = omega arith

fewer_free : (ks : List Rule) (o' o : List Bool) → Fewer o' o → ones (open_free ks o') ≤ ones (open_free ks o)
fewer_free [] o' o f = omega arith
fewer_free (k ∷ ks) [] o f = omega arith
fewer_free (k ∷ ks) (b ∷ o') [] f = absurd f
fewer_free (free ∷ ks) (b' ∷ o') (b ∷ o) f = omega (arith, fewer_bit b' b f.0, fewer_free ks o' o f.1)
fewer_free (frozen c m ∷ ks) (b' ∷ o') (b ∷ o) f = omega (arith, fewer_free ks o' o f.1)

more_frozen : (ks : List Rule) (o' o : List Bool) → Fewer o' o → ones (closed_frozen ks o) ≤ ones (closed_frozen ks o')
more_frozen [] o' o f = omega arith
more_frozen (k ∷ ks) o' [] f = omega arith
more_frozen (k ∷ ks) [] (b ∷ o) f = absurd f
more_frozen (free ∷ ks) (b' ∷ o') (b ∷ o) f = omega (arith, more_frozen ks o' o f.1)
more_frozen (frozen c m ∷ ks) (b' ∷ o') (b ∷ o) f = omega (arith, more_bit b' b f.0, more_frozen ks o' o f.1)

-- the closed frozen positions and the open ones are the frozen positions and the open free ones
frozen_open : (ks : List Rule) (o : List Bool) → length ks ≡ length o → ones (closed_frozen ks o) + ones o + frees ks ≡ length ks + ones (open_free ks o)
frozen_open [] [] h = refl
frozen_open [] (b ∷ o) h = absurd (omega arith)
frozen_open (k ∷ ks) [] h = absurd (omega arith)
frozen_open (free ∷ ks) (b ∷ o) h = omega (arith, frozen_open ks o (omega arith))
frozen_open (frozen c m ∷ ks) (true ∷ o) h = omega (arith, frozen_open ks o (omega arith))
frozen_open (frozen c m ∷ ks) (false ∷ o) h = omega (arith, frozen_open ks o (omega arith))

module _ (n : ℕ) (ks : List Rule) where
  pub balance : (r : ℕ) (w : List ℕ) → length ks ≡ 2 ^ n → length w ≡ 2 ^ n → equations n ks r w + ones (map erased w) + frees ks ≡ 2 ^ n + r + unknowns n ks w
  unfolding equations unknowns open_all
  balance r w lk lw =
      let lo : length (open_all n w) ≡ 2 ^ n = length-tab (2 ^ n) (is_open n (map erased w)) in
      omega (arith, frozen_open ks (open_all n w) (lk ∙ sym lo), open_erased n w lw)

  module _ (w w' : List ℕ) (f : filled_in w w' ≡ true) where
    pub fewer_unknowns : unknowns n ks w' ≤ unknowns n ks w
    unfolding unknowns
    fewer_unknowns = fewer_free ks (open_all n w') (open_all n w) (fewer_all n w w' f)

    pub more_equations : (r : ℕ) → equations n ks r w ≤ equations n ks r w'
    unfolding equations
    more_equations r = omega (arith, more_frozen ks (open_all n w') (open_all n w) (fewer_all n w w' f))

    pub counts-moved : (r : ℕ) → length ks ≡ 2 ^ n → length w ≡ 2 ^ n → equations n ks r w' + unknowns n ks w ≡ equations n ks r w + unknowns n ks w' + fetched w w'
    counts-moved r lk lw = omega (arith, balance r w lk lw, balance r w' lk (sym (filled-long w w' f) ∙ lw), erased-fetched w w' f)

    pub unknowns_each : length ks ≡ 2 ^ n → length w ≡ 2 ^ n → unknowns n ks w ≤ unknowns n ks w' + fetched w w'
    unknowns_each lk lw = omega (arith, counts-moved 0 lk lw, more_equations 0)
