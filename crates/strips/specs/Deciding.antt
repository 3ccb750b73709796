-- Repairing, part by part.
--     lane_in             the word of lane t, of symbols above 1 where the record is lost
--     repair_deciding     what is left once no fault of form is found: too many unknowns, or the reply
use Rattle.std.specs.Prelude.{ℕ, ◌*◌, ◌^◌, List, length, get_or, replicate, ltb}
use Rattle.bits.specs.Vectors.{pick, tab}
use Rattle.meaning.specs.Sheet.{rules}
use Rattle.meaning.specs.Codewords.{erased, candidates}
use Rattle.meaning.specs.Open.{unknowns, equations}
use Rattle.meaning.specs.Answers.{Reply, leaving, verdict}
use Rattle.meaning.specs.declared.Answer.TheVariants.{TooMany}
use Rattle.strips.specs.Repairing.{lane_bit, strip_reply}

abbrev pub lane_in : List ℕ → List ℕ → ℕ → List ℕ
lane_in strip word t = tab (length word) (λ (j : ℕ). pick (erased (get_or word j 2)) 2 (lane_bit strip j t))

-- what `decode` answers lane t where the unknowns are no more than the ceiling allows
abbrev pub lane_verdict : ℕ → List ℕ → ℕ → List ℕ → List ℕ → ℕ → Reply
lane_verdict n s r strip word t =
    verdict n (unknowns n (rules n s) word) (equations n (rules n s) r word) (candidates n (rules n s) r (lane_in strip word t)) (replicate (3 * 2 ^ n) 0)

unfoldable pub repair_deciding : ℕ → List ℕ → ℕ → ℕ → List ℕ → List ℕ → List ℕ → Reply
repair_deciding n s r c strip word out =
    let g = unknowns n (rules n s) word in
    pick (ltb c g) (leaving out (TooMany g)) (strip_reply n (lane_verdict n s r strip word) out)
