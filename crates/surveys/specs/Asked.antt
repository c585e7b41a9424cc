-- What the private functions ask.
use Rattle.std.specs.Prelude.{◌≡◌, false, List, ℕ, ◌*◌, ◌<◌, length, Some}
use Rattle.paper.specs.declared.System.{System}
use Rattle.rules_format.specs.Systems.{sequences_of, system_of}
use Rattle.rules_surveys.specs.Survey.{outside_sequences}

-- sequence q of DIF channel h
pub record PartAsked (y : System) (h q : ℕ) : Type 0 where
  pub channel : h < 4
  pub sequence : q < sequences_of y

-- DIF channel h, where t faults came before
pub record ChannelAsked (h t : ℕ) : Type 0 where
  pub channel : h < 4
  pub few : t < 6000

-- sequence q of DIF channel h is one of system k's, which is y, and has so many bytes
pub record SequenceKnown (k h q bytes : ℕ) (y : System) : Type 0 where
  pub known : system_of k ≡ Some y
  pub inside : outside_sequences (Some y) h q ≡ false
  pub whole : bytes ≡ 12000
