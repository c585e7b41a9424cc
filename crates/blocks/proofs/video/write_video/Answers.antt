-- `blocks::video::write_video` meets its contract: the ID, and what the slot carries. Assumes nothing.
use borrow.Author.Rules.{rules}
use Rattle.blocks.proofs.Ways.{macroblock_within, macroblock_done, empty_done}
use Rattle.blocks.proofs.video.write_video.Goals as goal

pub slice_bounds-copy_from_slice-end-in-Some : goal.slice_bounds-copy_from_slice-end-in-Some
slice_bounds-copy_from_slice-end-in-Some c =
    macroblock_within _ _ c.args.id.channel c.args.id.dseq c.args.id.dbn.0 _ c.requires _ c.carried.ensures _ c.in-Some.is

pub returns-in-Some : goal.returns-in-Some
returns-in-Some c = search (macroblock_done, rules)

pub returns-in-None : goal.returns-in-None
returns-in-None c = search (empty_done, rules)
