use Rattle.ruling.proofs.Rules.{rule_one, rule_zero}
use Rattle.ruling.proofs.Record.ruled_row.Goals as goal

pub returns-then-byte-eq1 : goal.returns-then-byte-eq1
returns-then-byte-eq1 c =
    let P = c.requires in
    rule_one _ _ _ _ P.0 _ P.1 _ (c.named_row.ensures c.args.c) _ c.byte.ensures c.if-byte-eq1.true

pub returns-else-byte-eq1 : goal.returns-else-byte-eq1
returns-else-byte-eq1 c =
    let P = c.requires in
    rule_zero _ _ _ _ P.0 _ P.1 _ (c.named_row.ensures c.args.c) _ c.byte.ensures c.if-byte-eq1.false
