-- What the bytes of a request's header say, and which bytes an answer starts with. Numbers are low byte first.
use Rattle.std.specs.Prelude.{ℕ, ◌+◌, ◌*◌, ◌%◌, ◌≡◌, List, get_or}
use Rattle.trial.specs.declared.Request.{Request}

-- the number in the two bytes of h from i on
abbrev pub two_at : List ℕ → ℕ → ℕ
two_at h i = get_or h i 0 + 256 * get_or h (i + 1) 0

-- the number in the four bytes of h from i on
abbrev pub four_at : List ℕ → ℕ → ℕ
four_at h i = two_at h i + 65536 * two_at h (i + 2)

-- q is what the header h says
abbrev pub Says : List ℕ → Request → Type 0
Says h q =
    (q.op ≡ two_at h 0) ×
    (q.n ≡ two_at h 2) ×
    (q.r ≡ two_at h 4) ×
    (q.ceiling ≡ two_at h 6) ×
    (q.a ≡ four_at h 8) ×
    (q.b ≡ four_at h 12) ×
    (q.c ≡ four_at h 16) ×
    (q.o ≡ four_at h 20)

-- number i of v stands in s, in the two bytes that it has there, but for what they cannot hold
abbrev pub Stands : List ℕ → List ℕ → ℕ → Type 0
Stands v s i = two_at s (i + i) ≡ get_or v i 0 % 65536

-- the five numbers of v stand in s, one after the other
abbrev pub Spells : List ℕ → List ℕ → Type 0
Spells v s = Stands v s 0 × Stands v s 1 × Stands v s 2 × Stands v s 3 × Stands v s 4
