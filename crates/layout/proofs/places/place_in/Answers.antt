-- `layout::places::place_in` meets its contract: section by section; the number is below 135. Assumes nothing.
use native.Mathlib.Omega.{arith}
use borrow.Author.Rules.{rules}
use Rattle.rules_format.proofs.Places.{blocks_le}
use Rattle.layout.proofs.Placing.{past_way, header_way, subcode_way, vaux_way, audio_way, video_way}
use Rattle.layout.proofs.places.place_in.Goals as goal

pub returns-then-blocks-k : goal.returns-then-blocks-k
returns-then-blocks-k c = search (past_way, rules)

pub overflow_add-result-in-Vaux : goal.overflow_add-result-in-Vaux
overflow_add-result-in-Vaux c = omega (arith, blocks_le c.args.section)

pub overflow_mul-result : goal.overflow_mul-result
overflow_mul-result c = omega (arith, blocks_le c.args.section)

pub overflow_add-result-in-Audio : goal.overflow_add-result-in-Audio
overflow_add-result-in-Audio c = omega (arith, blocks_le c.args.section)

pub overflow_mul-result-in-Video : goal.overflow_mul-result-in-Video
overflow_mul-result-in-Video c = omega (arith, blocks_le c.args.section)

pub overflow_add-result-in-Video : goal.overflow_add-result-in-Video
overflow_add-result-in-Video c = omega (arith, blocks_le c.args.section)

pub overflow_add-result-in-Video-2 : goal.overflow_add-result-in-Video-2
overflow_add-result-in-Video-2 c = omega (arith, blocks_le c.args.section)

pub returns-in-Header : goal.returns-in-Header
returns-in-Header c = search (header_way, rules)

pub returns-in-Subcode : goal.returns-in-Subcode
returns-in-Subcode c = search (subcode_way, rules)

pub returns-in-Vaux : goal.returns-in-Vaux
returns-in-Vaux c = search (vaux_way, rules)

pub returns-in-Audio : goal.returns-in-Audio
returns-in-Audio c = search (audio_way, rules)

pub returns-in-Video : goal.returns-in-Video
returns-in-Video c = search (video_way, rules)
