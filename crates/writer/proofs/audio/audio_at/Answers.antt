-- `writer::audio::audio_at` meets its contract: it is 8 at most. Assumes nothing.
use native.Mathlib.Omega.{arith}
use Rattle.rules_format.proofs.Sound.{audio_within}
use Rattle.writer.proofs.audio.audio_at.Goals as goal

pub overflow_add-result : goal.overflow_add-result
overflow_add-result c = omega (arith, audio_within _ _ _ c.requires.half c.requires.sequence c.requires.channel)

pub overflow_add-result-2 : goal.overflow_add-result-2
overflow_add-result-2 c = omega (arith, audio_within _ _ _ c.requires.half c.requires.sequence c.requires.channel)
