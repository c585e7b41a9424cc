-- Which rules hold of a system: those of eleven rows, or those of ten.
use Rattle.std.specs.Prelude.{◌≡◌, Bool}
use Rattle.base.specs.Pick.{pick}
use Rattle.paper.specs.declared.System.{System}
use Rattle.rules_picture.specs.Picture.{ten_carries, eleven_carries, carries_of, ten_found, eleven_found, carrier_of}

pub record Ruled (y : System) (eleven : Bool) : Type 0 where
  pub carries : carries_of y ≡ pick eleven eleven_carries ten_carries
  pub found : carrier_of y ≡ pick eleven eleven_found ten_found
