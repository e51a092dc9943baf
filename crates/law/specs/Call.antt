-- The fourteen calls, and what they answer.
use Rattle.std.specs.Prelude.{ℕ, List, Result}
use Rattle.answer.specs.declared.reply.Answer.{Answer}
use Rattle.answer.specs.declared.fault.HostFault.{HostFault}

-- The first number is the caller; serve, complete and disconnect act for domain 0.
pub data Call : Type 0 where
  -- caller, frame
  Take : ℕ → ℕ → Call
  Give : ℕ → ℕ → Call
  -- caller, frame, offset, and how many bytes, or which
  Load : ℕ → ℕ → ℕ → ℕ → Call
  Store : ℕ → ℕ → ℕ → List ℕ → Call
  -- caller, reference, flags, domid, frame
  Entry : ℕ → ℕ → ℕ → ℕ → ℕ → Call
  -- caller, reference
  End : ℕ → ℕ → Call
  -- caller, owner, reference, mode
  Map : ℕ → ℕ → ℕ → ℕ → Call
  -- caller, handle
  Unmap : ℕ → ℕ → Call
  -- caller, port
  Send : ℕ → ℕ → Call
  -- caller
  Next : ℕ → Call
  -- caller, kind, reference
  Connect : ℕ → ℕ → ℕ → Call
  -- connection
  Serve : ℕ → Call
  -- bay
  Complete : ℕ → Call
  -- connection
  Disconnect : ℕ → Call

-- the domain that a call acts for
abbrev pub domain : Call → ℕ
domain (Take d f) = d
domain (Give d f) = d
domain (Load d f o n) = d
domain (Store d f o bs) = d
domain (Entry d n fl to f) = d
domain (End d n) = d
domain (Map d o n md) = d
domain (Unmap d h) = d
domain (Send d p) = d
domain (Next d) = d
domain (Connect d k n) = d
domain (Serve c) = 0
domain (Complete b) = 0
domain (Disconnect c) = 0

-- what a call gives back: its result, and the bytes that a load filled its buffer with
pub record Reply : Type 0 where
  pub result : Result Answer HostFault
  pub filled : List ℕ
