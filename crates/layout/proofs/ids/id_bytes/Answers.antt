-- `layout::ids::id_bytes` meets its contract: the bytes are the definition's, and fit since a section's number is below 5. Assumes nothing.
use mathlib.Core.Path.{refl}
use native.Mathlib.Omega.{arith}
use Rattle.rules_format.specs.Ids.{id_bytes}
use Rattle.rules_format.proofs.Places.{code_below}
use Rattle.layout.proofs.ids.id_bytes.Goals as goal

pub overflow_mul-byte0 : goal.overflow_mul-byte0
overflow_mul-byte0 c = omega (arith, c.section_code.ensures, code_below c.args.b.section)

pub overflow_add-byte0 : goal.overflow_add-byte0
overflow_add-byte0 c = omega (arith, c.section_code.ensures, code_below c.args.b.section)

pub overflow_cast-result : goal.overflow_cast-result
overflow_cast-result c = omega (arith, c.section_code.ensures, code_below c.args.b.section)

pub returns : goal.returns
unfolding id_bytes
returns c = rw c.section_code.ensures refl
