-- Whether a request may go on to a device, and what goes on.
use Rattle.std.specs.Prelude.{not, [], ◌∷◌, Ok, Result}
use Rattle.rules.specs.Refusal.{refuse_first, and_then}
use Rattle.device.specs.Meaning.{Rules}
use Rattle.ringpage.specs.declared.slot.Request.{Request}
use Rattle.ring.specs.declared.fault.RingFault.TheVariants.{Unfit}
use Rattle.request.specs.Check.{miss, field_verdict}
use Rattle.request.specs.Content.{Asked, asked, listed, direction_of, place_of, length_of}
use Rattle.request.specs.declared.fields.Miss.{Miss}
use Rattle.request.specs.declared.passing.Checked.{Checked}

-- what the code's value says
abbrev pub asked_by : Checked → Asked
asked_by k = record { direction = k.direction; place = k.place; length = k.spans.length; id = k.id; operation = k.operation; spans = listed k.spans }

-- the request's own fields first, then whether the order fits the device
abbrev pub check_verdict : {M : Type 0} → Rules M → M → Request → Result Asked Miss
check_verdict R m q =
    and_then (field_verdict q) (λ _.
    refuse_first ((not (R.fits m (direction_of q) (place_of q) (length_of q)), miss Unfit 0) ∷ []) (Ok (asked q)))
