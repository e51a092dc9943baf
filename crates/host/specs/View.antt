-- The host, the memory, the devices and what a call gives back as the law has them.
use Rattle.std.specs.Prelude.{ℕ, List, [], negsuc, Result}
use Rattle.rules.specs.Refusal.{after_ok}
use Rattle.answer.specs.declared.fault.HostFault.{HostFault}
use Rattle.answer.specs.declared.reply.Answer.{Answer}
use Rattle.answer.specs.declared.parts.Layer.TheVariants.{InHost}
use Rattle.answer.specs.declared.parts.AnswerParts.{AnswerParts}
use Rattle.law.specs.World.{World, new_host}
use Rattle.law.specs.Call.{Reply}
use Rattle.host.specs.declared.state.Host.{Host}

abbrev pub seen : {M N : Type 0} → Host → List ℕ → M → N → World M N
seen h m x y = record { host = h.tables; memory = m; bay0 = x; bay1 = y }

-- a host of n frames that has just started over this memory
abbrev pub fresh : {M N : Type 0} → ℕ → List ℕ → M → N → World M N
fresh n m x y = record { host = new_host n; memory = m; bay0 = x; bay1 = y }

-- what a load gives back: its result, and where that is no refusal the bytes of the buffer
abbrev pub told_with : Result Answer HostFault → List ℕ → Reply
told_with r buffer = record { result = r; filled = after_ok r [] (λ _. buffer) }

-- what a refused start answers
abbrev pub start_refused : AnswerParts
start_refused = record { answer = negsuc 4; layer = InHost; detail = negsuc 4; place = 0 }
