-- What the laws are stated with: forms on rows, solutions, free unknowns, sums of rows, assignments packed into words.
-- The unknowns are z 0, z 1, ..; unknown b is coefficient b. κ gives a row's constant, such as one bit of what rides along.
--     Each P e                  every row of e is P
--     Hom Λ, vanishes Λ e       Λ takes XOR to XOR; Λ is 0 on every row of e
--     led c x, Within c g e     x has a coefficient; no row of e has one at or above g
--     dot, value, solves        the sum of a row's unknowns at z; with its constant; whether z solves all equations
--     consistent c κ e          each equation with no coefficient has the constant 0
--     Cleared, Reduced          the pivot of each equation is in no other row
--     owner, free               the equation whose pivot b is; whether there is none
--     completed c κ e z, unit g b      the free unknowns as in z, each pivot by its equation; b alone
--     sum_of w e f, marks o x    the sum of the rows that f names; the rows that the bits from o on name
--     unpack, parity            the unknowns that words hold; the sum of a row's unknowns at them
use Rattle.std.specs.Prelude.{◌≡◌, ℕ, zero, suc, ◌+◌, ◌≤◌, ◌<◌, Bool, true, false, ◌&&◌, ◌||◌, not, List, [], ◌∷◌, ◌++◌, length, get_or, set, replicate, eqb}
use Rattle.std.proofs.Math.Option.{Option, none, some}
use Rattle.bits.specs.Vectors.{◌⊕◌, pick, all}
use Rattle.bits.specs.Words.{odd_of, word_bits}
use Rattle.bits.specs.Rows.{Row, ◌⊻◌, nought_row, has, at}
use Rattle.gf2.specs.Solve.{lead}

-- ---- rows

-- every row is P
abbrev pub Each : (Row → Type 0) → List Row → Type 0
Each P e = (i : ℕ) → i < length e → P (at e i)

-- whether a row has a coefficient
abbrev pub led : ℕ → Row → Bool
led c x = not (eqb (lead c x) 0)

-- no coefficient at or above g
abbrev pub Within : ℕ → ℕ → List Row → Type 0
Within c g e = Each (λ x. lead c x ≤ g) e

-- ---- forms

-- takes XOR of rows to XOR of bits
abbrev pub Hom : (Row → Bool) → Type 0
Hom Λ = (x y : Row) → Λ (x ⊻ y) ≡ Λ x ⊕ Λ y

-- whether Λ is 0 on every row
abbrev pub vanishes : (Row → Bool) → List Row → Bool
vanishes Λ e = all (λ (x : Row). not (Λ x)) e

-- ---- solutions

-- the sum of the unknowns z, from unknown b on, that x has
unfoldable pub dot : ℕ → Row → List Bool → Bool
dot b x [] = false
dot b x (t ∷ z) = (has b x && t) ⊕ dot (suc b) x z

-- a row's value at z: the sum of its unknowns, and its constant
abbrev pub value : (Row → Bool) → List Bool → Row → Bool
value κ z x = dot 0 x z ⊕ κ x

-- whether z solves all equations: each has the value 0
abbrev pub solves : (Row → Bool) → List Row → List Bool → Bool
solves κ e z = vanishes (value κ z) e

-- whether each equation with no coefficient has the constant 0
abbrev pub consistent : ℕ → (Row → Bool) → List Row → Bool
consistent c κ e = all (λ (x : Row). led c x || not (κ x)) e

-- ---- reduced rows

-- the pivot of equation k, for k below n, is in no other equation of e and in no row of r
pub record Cleared (c n : ℕ) (e r : List Row) : Type 0 where
  pub others : (k b : ℕ) → k < n → lead c (at e k) ≡ suc b → (j : ℕ) → j < length e → (j ≡ k → ⊥) → has b (at e j) ≡ false
  pub rests : (k b : ℕ) → k < n → lead c (at e k) ≡ suc b → (j : ℕ) → j < length r → has b (at r j) ≡ false

abbrev pub Reduced : ℕ → List Row → List Row → Type 0
Reduced c e r = Cleared c (length e) e r

-- no two equations have the same pivot
abbrev pub Distinct : ℕ → List Row → Type 0
Distinct c e = (j k b : ℕ) → j < length e → k < length e → lead c (at e j) ≡ suc b → lead c (at e k) ≡ suc b → j ≡ k

-- ---- free unknowns

-- the equation whose pivot is b
unfoldable pub owner : ℕ → List Row → ℕ → Option Row
owner c [] b = none
owner c (x ∷ e) b = pick (eqb (lead c x) (suc b)) (some x) (owner c e b)

abbrev pub is_none : Option Row → Bool
is_none none = true
is_none (some x) = false

-- whether unknown b is no pivot
abbrev pub free : ℕ → List Row → ℕ → Bool
free c e b = is_none (owner c e b)

-- the next unknown after those of acc: t if it is free, else what its equation says
abbrev pub forced : (Row → Bool) → List Bool → Option Row → Bool → Bool
forced κ acc none t = t
forced κ acc (some x) t = dot 0 x acc ⊕ κ x

-- the free unknowns as in z, each pivot by its equation from the unknowns before it
unfoldable pub fill : ℕ → (Row → Bool) → List Row → List Bool → List Bool → List Bool
fill c κ e acc [] = []
fill c κ e acc (t ∷ z) = let u = forced κ acc (owner c e (length acc)) t in u ∷ fill c κ e (acc ++ (u ∷ [])) z

abbrev pub completed : ℕ → (Row → Bool) → List Row → List Bool → List Bool
completed c κ e z = fill c κ e [] z

-- of g unknowns, b alone
abbrev pub unit : ℕ → ℕ → List Bool
unit g b = set (replicate g false) b true

-- ---- sums of rows

-- the sum of the rows k of e at which f holds
unfoldable pub sum_of : ℕ → List Row → (ℕ → Bool) → Row
sum_of w [] f = nought_row w
sum_of w (x ∷ e) f = let s = sum_of w e (λ (k : ℕ). f (suc k)) in pick (f 0) (x ⊻ s) s

-- the rows k that bits o, o + 1, .. of x name
abbrev pub marks : ℕ → Row → ℕ → Bool
marks o x k = has (o + k) x

-- ---- assignments packed into words

-- the unknowns that c words hold
unfoldable pub unpack : ℕ → Row → List Bool
unpack zero z = []
unpack (suc c) z = unpack c z ++ word_bits 64 (get_or z c 0)

-- whether x and z have an odd number of common bits in their first c words
unfoldable pub parity : ℕ → Row → Row → Bool
parity zero z x = false
parity (suc c) z x = parity c z x ⊕ odd_of (get_or x c 0) (get_or z c 0)
