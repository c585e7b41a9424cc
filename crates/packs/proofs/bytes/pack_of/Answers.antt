-- `packs::bytes::pack_of` meets its contract: the header, then the bytes. Assumes nothing.
use mathlib.Core.Path.{refl}
use Rattle.packs.proofs.bytes.pack_of.Goals as goal

pub returns : goal.returns
returns c = rw (c.byte_at.ensures, c.byte_at-2.ensures, c.byte_at-3.ensures, c.byte_at-4.ensures) refl
