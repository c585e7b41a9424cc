-- `refuse_macroblock::refuse` meets its contract: one lemma for each way out. Assumes nothing.
use borrow.Author.Rules.{rules}
use Rattle.layout.proofs.Saying.{handed_on}
use Rattle.rules_reads.specs.Macroblock.{MacroblockNumbered}
use Rattle.refuse_macroblock.proofs.Ways.{macroblock_stops, macroblock_none, macroblock_check_stops, macroblock_through}
use Rattle.refuse_macroblock.proofs.refuse.Goals as goal

pub returns-in_err-y-clause-said : goal.returns-in_err-y-clause-said
returns-in_err-y-clause-said c = handed_on (MacroblockNumbered c.args.system c.args.frame.now c.args.b) _ _ c.from_residual.ensures.1 (macroblock_stops _ _ _ _ c.in_err-y.ensures.said)

pub returns-then-not-within-clause-said : goal.returns-then-not-within-clause-said
returns-then-not-within-clause-said c = search (macroblock_none, c.in_ok-y.ensures.known, rules)

pub returns-in_err-refuse_known-clause-said : goal.returns-in_err-refuse_known-clause-said
returns-in_err-refuse_known-clause-said c =
    handed_on (MacroblockNumbered c.args.system c.args.frame.now c.args.b) _ _ c.from_residual-in_err-refuse_known.ensures.1
    (search (macroblock_check_stops, c.in_ok-y.ensures.known, c.in_err-refuse_known.ensures, rules))

pub returns-in_err-refuse_picture-clause-said : goal.returns-in_err-refuse_picture-clause-said
returns-in_err-refuse_picture-clause-said c =
    handed_on (MacroblockNumbered c.args.system c.args.frame.now c.args.b) _ _ c.from_residual-in_err-refuse_picture.ensures.1
    (search (macroblock_through, c.in_ok-y.ensures.known, c.in_ok-refuse_known.ensures, c.in_err-refuse_picture.ensures, rules))

pub returns-clause-said : goal.returns-clause-said
returns-clause-said c = search (macroblock_through, c.in_ok-y.ensures.known, c.in_ok-refuse_known.ensures, c.in_ok-refuse_picture.ensures, rules)
