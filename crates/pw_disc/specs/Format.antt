-- The format of disc messages.
use Rattle.std.specs.Prelude.{◌≡◌, ℕ, List}
use Rattle.pw_disc.specs.declared.call.DiscCall.{DiscCall}
use Rattle.pw_disc.specs.Message.{message_of}
use Rattle.pw_disc.specs.Values.{DiscCallHasValues}

-- the bytes are the message of the call
pub record IsMessageOf (bytes : List ℕ) (call : DiscCall) : Type 0 where
  pub has_values : DiscCallHasValues call
  pub is : bytes ≡ message_of call
