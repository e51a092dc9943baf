-- What a message is, and what its two codecs promise.
use Rattle.std.specs.Prelude.{◌≡◌, ℕ, List}
use Rattle.layout.specs.Layout.{Part, read, written, covered}

-- a message of the type T: how its bytes lie, the values of its fields in that order, and the message of such values
pub record Message (T : Type 0) : Type 0 where
  pub layout : List Part
  pub values : T → List ℕ
  pub of : List ℕ → T

-- m was decoded from the bytes bs
pub record Decoded {T : Type 0} (M : Message T) (bs : List ℕ) (m : T) : Type 0 where
  -- it is the message that the layout reads there
  pub value : m ≡ M.of (read M.layout bs)
  -- written again it has every byte that a field covers, and 0 elsewhere
  pub again : written M.layout (M.values m) ≡ covered M.layout bs

-- m was encoded as the bytes bs
pub record Encoded {T : Type 0} (M : Message T) (m : T) (bs : List ℕ) : Type 0 where
  -- they are the bytes that the layout writes
  pub value : bs ≡ written M.layout (M.values m)
  -- read again they give the message back
  pub back : M.of (read M.layout bs) ≡ m
