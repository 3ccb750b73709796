-- The model over bits, with a bit for each unknown.
--     bits t       XOR, 0, 1, and the bit t k for unknown k
--     assign t     a list of bits as such a choice
--     u_at, x_at     the vector u and the codeword x that the model finds at a list t of bits for the unknowns
--     solves       all its equations are 0 at t
use Rattle.std.specs.Prelude.{ℕ, Bool, true, false, List, get_or}
use Rattle.bits.specs.Vectors.{◌⊕◌, zeros}
use Rattle.meaning.specs.Sheet.{Rule}
use Rattle.model.specs.Model.{Values, run, system}

abbrev pub bits : (ℕ → Bool) → Values Bool
bits t = record { plus = ◌⊕◌; nought = false; unit = true; unknown = t }

-- unknown k is bit k of the list
abbrev pub assign : List Bool → ℕ → Bool
assign t k = get_or t k false

unfoldable pub u_at : (ℕ → Rule) → ℕ → List ℕ → List Bool → List Bool
u_at rule n w t = (run (bits (assign t)) rule n w).after.us

unfoldable pub x_at : (ℕ → Rule) → ℕ → List ℕ → List Bool → List Bool
x_at rule n w t = (run (bits (assign t)) rule n w).block

-- all equations are 0 at t
unfoldable pub solves : (ℕ → Rule) → ℕ → ℕ → List ℕ → List Bool → Bool
solves rule n r w t = zeros (system (bits (assign t)) rule n r w)
