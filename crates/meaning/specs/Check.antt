-- Which vectors u a sheet allows: those that keep every frozen rule and the check.
--     keeps_rules ks u v   the positions v, the last of u, keep the rules ks
--     free_bits ks u       the free bits, in rising position
--     terms r, poly r     the check polynomial of length r (3GPP TS 38.212, clause 5.1)
--     rest, divides       long division, highest power first
--     keeps ks r u        u keeps every frozen rule and the check
use Rattle.std.specs.Prelude.{ℕ, suc, ◌-◌, Bool, true, false, ◌&&◌, not, List, [], ◌∷◌, ◌++◌, map, replicate, eqb}
use Rattle.bits.specs.Vectors.{◌⊕◌, ◌⊞◌, pick, any, tab, zeros, odd}
use Rattle.meaning.specs.Limits.{leads}
use Rattle.meaning.specs.Sheet.{Rule, free, frozen}

-- ---- the frozen rules

-- a frozen u_i is the constant, flipped if an odd number of the positions it names hold 1
abbrev pub keeps_rules : List Rule → List Bool → List Bool → Bool
keeps_rules [] u v = true
keeps_rules (k ∷ ks) u [] = true
keeps_rules (free ∷ ks) u (b ∷ v) = keeps_rules ks u v
keeps_rules (frozen c m ∷ ks) u (b ∷ v) = not (b ⊕ (c ⊕ odd m u)) && keeps_rules ks u v

-- the free bits, in rising position
abbrev pub free_bits : List Rule → List Bool → List Bool
free_bits [] v = []
free_bits (k ∷ ks) [] = []
free_bits (free ∷ ks) (b ∷ v) = b ∷ free_bits ks v
free_bits (frozen c m ∷ ks) (b ∷ v) = free_bits ks v

-- ---- the check

-- the powers below r of the check polynomial: D^6 + D^5 + 1, and D^11 + D^10 + D^9 + D^5 + 1
abbrev pub terms : ℕ → List ℕ
terms r = pick (eqb r 6) (5 ∷ 0 ∷ []) (pick (eqb r 11) (10 ∷ 9 ∷ 5 ∷ 0 ∷ []) [])

-- its coefficients from D^(r-1) down
unfoldable pub poly : ℕ → List Bool
poly r = tab r (λ (k : ℕ). any (eqb (r - suc k)) (terms r))

-- long division by D^r + g: s is the remainder so far, from D^(r-1) down. One more bit is shifted in and, where a 1 went out, g is subtracted
abbrev pub shift : List Bool → List Bool → Bool → List Bool
shift g [] b = []
shift g (o ∷ s) b = (s ++ (b ∷ [])) ⊞ map (λ (x : Bool). o && x) g

abbrev pub rest : List Bool → List Bool → List Bool → List Bool
rest g s [] = s
rest g s (b ∷ v) = rest g (shift g s b) v

-- the check polynomial divides the sequence v, first bit at the highest power
abbrev pub divides : ℕ → List Bool → Bool
divides r v = zeros (rest (poly r) (replicate r false) v)

-- ---- both

-- u keeps every frozen rule and the check: the polynomial divides r ones followed by the free bits
unfoldable pub keeps : List Rule → ℕ → List Bool → Bool
keeps ks r u = keeps_rules ks u u && divides r (leads r ++ free_bits ks u)
