-- Open positions, and the counts g and m that stand on them. `es` holds true at the erased places.
--     is_open n es i       two vectors u exist, free of all rules, equal before i, different at i, whose x are equal at every unerased place
--     is_open_d n es i      the same by the difference of the two
--     opens n es          all positions by halves, as code finds them
--     unknowns            g, the open free positions
--     equations           m, the frozen positions that are not open, plus r
-- That the three agree is a law: proofs/Open.
use Rattle.std.specs.Prelude.{ℕ, zero, suc, ◌+◌, ◌^◌, Bool, true, false, ◌&&◌, ◌||◌, not, List, [], ◌∷◌, ◌++◌, map, take, drop, get_or}
use Rattle.bits.specs.Vectors.{◌⊕◌, all_bits, any, tab, ones, zeros, same}
use Rattle.meaning.specs.Transform.{polar}
use Rattle.meaning.specs.Sheet.{Rule, free, frozen}
use Rattle.meaning.specs.Codewords.{erased}

-- ---- by two vectors

-- equal at every place that is not erased
abbrev pub meet : List Bool → List Bool → List Bool → Bool
meet [] x y = true
meet (e ∷ es) [] y = true
meet (e ∷ es) (a ∷ x) [] = true
meet (e ∷ es) (a ∷ x) (b ∷ y) = (e || not (a ⊕ b)) && meet es x y

unfoldable pub open_pair : ℕ → List Bool → ℕ → List Bool → List Bool → Bool
open_pair n es i u v = same (take i u) (take i v) && (get_or u i false ⊕ get_or v i false) && meet es (polar n u) (polar n v)

unfoldable pub is_open : ℕ → List Bool → ℕ → Bool
is_open n es i = any (λ (u : List Bool). any (open_pair n es i u) (all_bits (2 ^ n))) (all_bits (2 ^ n))

-- ---- by their difference

-- zero at every place that is not erased
abbrev pub clear : List Bool → List Bool → Bool
clear [] x = true
clear (e ∷ es) [] = true
clear (e ∷ es) (a ∷ x) = (e || not a) && clear es x

unfoldable pub open_diff : ℕ → List Bool → ℕ → List Bool → Bool
open_diff n es i d = zeros (take i d) && get_or d i false && clear es (polar n d)

unfoldable pub is_open_d : ℕ → List Bool → ℕ → Bool
is_open_d n es i = any (open_diff n es i) (all_bits (2 ^ n))

-- ---- by halves: the left half gets what is erased in one of the two, the right half what is erased in both

abbrev pub either : List Bool → List Bool → List Bool
either [] w = []
either (a ∷ v) [] = []
either (a ∷ v) (b ∷ w) = (a || b) ∷ either v w

abbrev pub both : List Bool → List Bool → List Bool
both [] w = []
both (a ∷ v) [] = []
both (a ∷ v) (b ∷ w) = (a && b) ∷ both v w

unfoldable pub opens : ℕ → List Bool → List Bool
opens zero e = e
opens (suc n) e =
    let a = take (2 ^ n) e in
    let b = drop (2 ^ n) e in
    opens n (either a b) ++ opens n (both a b)

-- ---- the counts

-- the free positions that are open, and the frozen ones that are not
abbrev pub open_free : List Rule → List Bool → List Bool
open_free [] o = []
open_free (k ∷ ks) [] = []
open_free (free ∷ ks) (b ∷ o) = b ∷ open_free ks o
open_free (frozen c m ∷ ks) (b ∷ o) = false ∷ open_free ks o

abbrev pub closed_frozen : List Rule → List Bool → List Bool
closed_frozen [] o = []
closed_frozen (k ∷ ks) [] = []
closed_frozen (free ∷ ks) (b ∷ o) = false ∷ closed_frozen ks o
closed_frozen (frozen c m ∷ ks) (b ∷ o) = not b ∷ closed_frozen ks o

-- which positions the word leaves open
unfoldable pub open_all : ℕ → List ℕ → List Bool
open_all n w = tab (2 ^ n) (is_open n (map erased w))

-- g: open free positions
unfoldable pub unknowns : ℕ → List Rule → List ℕ → ℕ
unknowns n ks w = ones (open_free ks (open_all n w))

-- m: frozen positions that are not open, plus r
unfoldable pub equations : ℕ → List Rule → ℕ → List ℕ → ℕ
equations n ks r w = ones (closed_frozen ks (open_all n w)) + r
