-- What the loops over sequences and DIF channels ask and keep. Assumes nothing.
use mathlib.Core.Path.{◌≡◌, ap, ◌∙◌}
use mathlib.Core.List.{List}
use Prim.Native.Nat.{ℕ, ◌+◌, ◌*◌, ◌≤◌, ◌<◌, ◌-◌}
use native.Mathlib.Omega.{arith}
use lib.ListN.{length, take, drop}
use Rattle.base.specs.Run.{run}
use Rattle.base.proofs.Parts.{range_part}
use Rattle.paper.specs.declared.System.{System}
use Rattle.rules_format.specs.Systems.{sequences_of}
use Rattle.rules_format.specs.Blocks.{sequence_at}
use Rattle.rules_surveys.specs.FaultLists.{part_faults, channel_faults, frame_faults}
use Rattle.rules_format.proofs.Systems.{sequences_le}
use Rattle.rules_format.proofs.Blocks.{before_channel, sequence_length}
use Rattle.rules_surveys.proofs.FaultLists.{parts_le, channels_le}
use Rattle.fault_list.specs.declared.list.FaultList.{FaultList}
use Rattle.fault_list.specs.Asked.{next_faults}
use Rattle.fault_list.specs.Listed.{NotedIn}
use Rattle.fault_list.proofs.Listing.{in_turn}
use Rattle.fault_list.proofs.Next.{next_inside}
use Rattle.surveys.specs.Asked.{PartAsked, ChannelAsked}

-- ---- part_of: m is what `sequences` answers

module _ (frame : List ℕ) (y : System) (h q m : ℕ) (a : PartAsked y h q) (w : length frame ≡ 48000 * sequences_of y) (em : m ≡ sequences_of y) where
  before : m * h ≤ m * 3
  before = before_channel m h a.channel

  pub part_fits : (m * h + q) * 12000 + 12000 ≤ length frame
  part_fits = omega (arith, before, w, a.sequence, em)

  pub part_cut : take ((m * h + q) * 12000 + 12000 - (m * h + q) * 12000) (drop ((m * h + q) * 12000) frame) ≡ sequence_at y frame h q
  unfolding sequence_at
  part_cut = range_part ((m * h + q) * 12000) 12000 frame ∙ ap (λ (n : ℕ). take 12000 (drop ((n * h + q) * 12000) frame)) em

-- ---- survey_channel: sequence q of the m of a DIF channel

module _ (frame : List ℕ) (y : System) (h t m q : ℕ) (a : ChannelAsked h t) (w : length frame ≡ 48000 * sequences_of y) (em : m ≡ sequences_of y) (l : q < m) where
  pub part_asked : PartAsked y h q
  part_asked = record { channel = a.channel; sequence = omega (arith, em) }

  pub part_turn : (part : List ℕ) (list list' list'' : FaultList) → t ≡ list.total → NotedIn list (run (part_faults y frame h) q) list' → part ≡ sequence_at y frame h q
      → NotedIn list' (next_faults y h q part list'.total) list'' → NotedIn list (run (part_faults y frame h) (q + 1)) list''
  part_turn part list list' list'' et n e k =
      let few : list'.total < 8000 = omega (arith, n.noted.total, a.few, et, parts_le y frame h q, em, sequences_le y) in
      let inside = next_inside y h q (sequence_at y frame h q) list'.total a.channel (omega (arith, em)) (sequence_length y frame h q w a.channel (omega (arith, em))) few in
      in_turn (part_faults y frame h) q n (rw inside at (rw e at k))

pub parts_done : (frame : List ℕ) (y : System) (h m q : ℕ) (list list' : FaultList) → m ≡ sequences_of y → q ≤ m → m ≤ q → NotedIn list (run (part_faults y frame h) q) list'
    → NotedIn list (channel_faults y frame h) list'
unfolding channel_faults
parts_done frame y h m q list list' em a b n = let e : q ≡ sequences_of y = omega arith in rw e at n

-- ---- survey_all: DIF channel h

module _ (frame : List ℕ) (y : System) (h : ℕ) (list list' : FaultList) (first : list.total ≡ 0) (l : h < 4) (n : NotedIn list (run (channel_faults y frame) h) list') where
  pub channel_asked : ChannelAsked h list'.total
  channel_asked = record { channel = l; few = omega (arith, n.noted.total, first, channels_le y frame h) }

  pub channel_turn : (list'' : FaultList) → NotedIn list' (channel_faults y frame h) list'' → NotedIn list (run (channel_faults y frame) (h + 1)) list''
  channel_turn list'' k = in_turn (channel_faults y frame) h n k

pub channels_done : (frame : List ℕ) (y : System) (h : ℕ) (list list' : FaultList) → h ≤ 4 → 4 ≤ h → NotedIn list (run (channel_faults y frame) h) list' → NotedIn list (frame_faults y frame) list'
unfolding frame_faults
channels_done frame y h list list' a b n = let e : h ≡ 4 = omega arith in rw e at n
