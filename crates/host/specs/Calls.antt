-- Calls as values, as the law has them.
use Rattle.std.specs.Prelude.{◌≡◌, ℕ, List, take, drop, Result}
use Rattle.answer.specs.declared.fault.HostFault.{HostFault}
use Rattle.answer.specs.declared.reply.Answer.{Answer}
use Rattle.law.specs.Call as law
use Rattle.law.specs.Step.{told}
use Rattle.table_calls.specs.Parts.{Untouched}
use Rattle.host.specs.View.{told_with}
use Rattle.host.specs.declared.call.Call.{Call}
use Rattle.host.specs.declared.call.Call.TheVariants.{Take, Give, Load, Store, Entry, End, Map, Unmap, Send, Next, Connect, Serve, Complete, Disconnect}

abbrev pub call_of : Call → law.Call
call_of (Take d f) = law.Take d f
call_of (Give d f) = law.Give d f
call_of (Load d f o n) = law.Load d f o n
call_of (Store d f o bs) = law.Store d f o bs.now
call_of (Entry d n fl to f) = law.Entry d n fl to f
call_of (End d n) = law.End d n
call_of (Map d o n md) = law.Map d o n md
call_of (Unmap d h) = law.Unmap d h
call_of (Send d p) = law.Send d p
call_of (Next d) = law.Next d
call_of (Connect d k n) = law.Connect d k n
call_of (Serve c) = law.Serve c
call_of (Complete b) = law.Complete b
call_of (Disconnect c) = law.Disconnect c

-- what the call gives back: a load has filled the front of the buffer
abbrev pub reply_of : Call → Result Answer HostFault → List ℕ → law.Reply
reply_of (Take d f) r buffer = told r
reply_of (Give d f) r buffer = told r
reply_of (Load d f o n) r buffer = told_with r (take n buffer)
reply_of (Store d f o bs) r buffer = told r
reply_of (Entry d n fl to f) r buffer = told r
reply_of (End d n) r buffer = told r
reply_of (Map d o n md) r buffer = told r
reply_of (Unmap d h) r buffer = told r
reply_of (Send d p) r buffer = told r
reply_of (Next d) r buffer = told r
reply_of (Connect d k n) r buffer = told r
reply_of (Serve c) r buffer = told r
reply_of (Complete b) r buffer = told r
reply_of (Disconnect c) r buffer = told r

-- what a call fills of the buffer: a load so many bytes, any other none
abbrev pub fills : Call → ℕ
fills (Take d f) = 0
fills (Give d f) = 0
fills (Load d f o n) = n
fills (Store d f o bs) = 0
fills (Entry d n fl to f) = 0
fills (End d n) = 0
fills (Map d o n md) = 0
fills (Unmap d h) = 0
fills (Send d p) = 0
fills (Next d) = 0
fills (Connect d k n) = 0
fills (Serve c) = 0
fills (Complete b) = 0
fills (Disconnect c) = 0

-- nothing past that is touched, and by a refusal nothing at all
pub record Filled (n : ℕ) (r : Result Answer HostFault) (buffer buffer' : List ℕ) : Type 0 where
  pub rest : drop n buffer' ≡ drop n buffer
  pub refused : Untouched r buffer buffer'
