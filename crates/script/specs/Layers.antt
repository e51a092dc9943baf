-- The layers by their names.
use Rattle.std.specs.Prelude.{ℕ, List, codes}
use Rattle.answer.specs.declared.parts.Layer.{Layer}
use Rattle.answer.specs.declared.parts.Layer.TheVariants.{NoLayer, InHost, InFrame, InGrant, InEvent, InDevice, InRing}

abbrev pub layer_name : Layer → List ℕ
layer_name NoLayer = codes "none"
layer_name InHost = codes "host"
layer_name InFrame = codes "frame"
layer_name InGrant = codes "grant"
layer_name InEvent = codes "event"
layer_name InDevice = codes "device"
layer_name InRing = codes "ring"
