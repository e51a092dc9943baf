-- Requests and responses of a ring for sending packets.
use Rattle.std.specs.Prelude.{[], ◌∷◌, get_or}
use Rattle.std.proofs.Common.{to_z, of_z}
use Rattle.std.specs.Int.{w16}
use Rattle.layout.specs.Layout.{field}
use Rattle.layout.specs.Message.{Message}
use Rattle.netif.specs.declared.send.SendRequest.{SendRequest}
use Rattle.netif.specs.declared.send.SendResponse.{SendResponse}

abbrev pub send_request : Message SendRequest
send_request = record {
  layout = field 4 ∷ field 2 ∷ field 2 ∷ field 2 ∷ field 2 ∷ [];
  values = λ m. m.reference ∷ m.offset ∷ m.flags ∷ m.id ∷ m.size ∷ [];
  of = λ vs. record { reference = get_or vs 0 0; offset = get_or vs 1 0; flags = get_or vs 2 0; id = get_or vs 3 0; size = get_or vs 4 0 };
}

abbrev pub send_response : Message SendResponse
send_response = record {
  layout = field 2 ∷ field 2 ∷ [];
  values = λ m. m.id ∷ of_z w16 m.status ∷ [];
  of = λ vs. record { id = get_or vs 0 0; status = to_z w16 (get_or vs 1 0) };
}
