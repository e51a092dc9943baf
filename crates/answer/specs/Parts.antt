-- The four parts of an answer: answer, layer, detail, place.
use Rattle.std.specs.Prelude.{ℕ, ℤ, pos, Ok, Err, Result}
use Rattle.abi.specs.Status.{grant_number}
use Rattle.abi.specs.declared.status.GrantStatus.TheVariants.{BadDomain, BadVirtAddr}
use Rattle.frame.specs.Fault.{fault_number as frame_fault_number}
use Rattle.grant.specs.Fault.{fault_number as grant_fault_number}
use Rattle.event.specs.Fault.{fault_number as event_fault_number}
use Rattle.ring.specs.Fault.{fault_number as ring_fault_number, layer_of}
use Rattle.ring.specs.declared.fault.Layer.{Layer as RingsLayer}
use Rattle.ring.specs.declared.fault.Layer.TheVariants.{InGrant as RingsInGrant, InDevice as RingsInDevice, InRing as RingsInRing}
use Rattle.ring.specs.declared.fault.RingFault.{RingFault}
use Rattle.answer.specs.declared.fault.HostFault.{HostFault}
use Rattle.answer.specs.declared.fault.HostFault.TheVariants.{BadMemory, BadCaller, OfFrame, OfGrant, OfEvent, OfRing}
use Rattle.answer.specs.declared.reply.Answer.{Answer}
use Rattle.answer.specs.declared.reply.Answer.TheVariants.{Done, Length, Handle, Port, Connected, Idle, HandedOver, AnsweredNow, Completed}
use Rattle.answer.specs.declared.parts.Layer.{Layer}
use Rattle.answer.specs.declared.parts.Layer.TheVariants.{NoLayer, InHost, InFrame, InGrant, InEvent, InDevice, InRing}
use Rattle.answer.specs.declared.parts.AnswerParts.{AnswerParts}

-- a fault met below keeps its number
abbrev pub fault_number : HostFault → ℤ
fault_number BadMemory = grant_number BadVirtAddr
fault_number BadCaller = grant_number BadDomain
fault_number (OfFrame e) = frame_fault_number e
fault_number (OfGrant e) = grant_fault_number e
fault_number (OfEvent e) = event_fault_number e
fault_number (OfRing e) = ring_fault_number e

abbrev pub of_ring : RingsLayer → Layer
of_ring RingsInGrant = InGrant
of_ring RingsInDevice = InDevice
of_ring RingsInRing = InRing

abbrev pub ring_layer : RingFault → Layer
ring_layer f = of_ring (layer_of f)

-- and its layer
abbrev pub fault_layer : HostFault → Layer
fault_layer BadMemory = InHost
fault_layer BadCaller = InHost
fault_layer (OfFrame e) = InFrame
fault_layer (OfGrant e) = InGrant
fault_layer (OfEvent e) = InEvent
fault_layer (OfRing e) = ring_layer e

-- where nothing else is said: no layer, no detail, place 0
abbrev pub plain : ℕ → AnswerParts
plain n = record { answer = pos n; layer = NoLayer; detail = pos 0; place = 0 }

abbrev pub given_parts : Answer → AnswerParts
given_parts Done = plain 0
given_parts (Length n) = plain n
given_parts (Handle h) = plain h
given_parts (Port p) = plain p
given_parts (Connected c) = plain c
given_parts Idle = plain 0
given_parts HandedOver = plain 1
given_parts (AnsweredNow f) = record { answer = pos 2; layer = ring_layer f.fault; detail = ring_fault_number f.fault; place = f.place }
given_parts Completed = plain 1

-- a refusal has its number in answer and detail
abbrev pub answer_parts : Result Answer HostFault → AnswerParts
answer_parts (Ok a) = given_parts a
answer_parts (Err f) = record { answer = fault_number f; layer = fault_layer f; detail = fault_number f; place = 0 }
