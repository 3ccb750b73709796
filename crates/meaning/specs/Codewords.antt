-- Codewords, and the one list that every verdict is read off.
--     codewords n ks r       the x of any u that keeps every frozen rule and the check, in the order of u
--     erased, agrees         a symbol is erased; a codeword equals the word at every symbol that isn't
--     candidates n ks r w    the agreeing codewords, in the order of u
--     Codeword, Agreeing     x is a codeword; and agrees with the word (proofs/Candidates: the lists hold these and no other)
--     OneAgrees, NoneAgrees  there is an agreeing codeword, and every other equals it; there is none
--     payload_of n ks r x     the payload of a codeword
--     carrying n ks r p      the codewords with a payload
use Rattle.std.specs.Prelude.{ℕ, zero, suc, ◌-◌, ◌^◌, ◌≡◌, Bool, true, false, ◌&&◌, not, List, [], ◌∷◌, map, length, take}
use Rattle.bits.specs.Vectors.{all_bits, filter, same}
use Rattle.meaning.specs.Transform.{polar}
use Rattle.meaning.specs.Sheet.{Rule, frees}
use Rattle.meaning.specs.Check.{free_bits, keeps}

-- the x of any u that keeps every frozen rule and the check, in the order of u: compared from u_0 on, 0 before 1
unfoldable pub codewords : ℕ → List Rule → ℕ → List (List Bool)
codewords n ks r = map (polar n) (filter (keeps ks r) (all_bits (2 ^ n)))

-- 2 means erased
abbrev pub erased : ℕ → Bool
erased zero = false
erased (suc zero) = false
erased (suc (suc s)) = true

-- the bit is the symbol, or the symbol is erased
abbrev pub fits : ℕ → Bool → Bool
fits zero b = not b
fits (suc zero) b = b
fits (suc (suc s)) b = true

-- agreeing: equal to the word at every symbol that isn't erased
abbrev pub agrees : List ℕ → List Bool → Bool
agrees [] x = true
agrees (s ∷ w) [] = true
agrees (s ∷ w) (b ∷ x) = fits s b && agrees w x

-- the agreeing codewords, in the order of their u
unfoldable pub candidates : ℕ → List Rule → ℕ → List ℕ → List (List Bool)
candidates n ks r w = filter (agrees w) (codewords n ks r)

-- x is the transform of a u that keeps every frozen rule and the check: of its own transform
abbrev pub Codeword : ℕ → List Rule → ℕ → List Bool → Type 0
Codeword n ks r x = (length x ≡ 2 ^ n) × (keeps ks r (polar n x) ≡ true)

-- x is a codeword that agrees
abbrev pub Agreeing : ℕ → List Rule → ℕ → List ℕ → List Bool → Type 0
Agreeing n ks r w x = Codeword n ks r x × (agrees w x ≡ true)

abbrev pub OneAgrees : ℕ → List Rule → ℕ → List ℕ → Type 0
OneAgrees n ks r w = (x : List Bool) × (Agreeing n ks r w x × ((y : List Bool) → Agreeing n ks r w y → y ≡ x))

abbrev pub NoneAgrees : ℕ → List Rule → ℕ → List ℕ → Type 0
NoneAgrees n ks r w = (x : List Bool) → Agreeing n ks r w x → ⊥

-- the payload is the first K - r free bits of u, the transform of x
unfoldable pub payload_of : ℕ → List Rule → ℕ → List Bool → List Bool
payload_of n ks r x = take (frees ks - r) (free_bits ks (polar n x))

-- the codewords with payload p
unfoldable pub carrying : ℕ → List Rule → ℕ → List Bool → List (List Bool)
carrying n ks r p = filter (λ (x : List Bool). same p (payload_of n ks r x)) (codewords n ks r)
