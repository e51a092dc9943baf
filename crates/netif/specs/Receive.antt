-- Requests and responses of a ring for receiving packets.
use Rattle.std.specs.Prelude.{[], ◌∷◌, get_or}
use Rattle.std.proofs.Common.{to_z, of_z}
use Rattle.std.specs.Int.{w16}
use Rattle.layout.specs.Layout.{field, gap}
use Rattle.layout.specs.Message.{Message}
use Rattle.netif.specs.declared.receive.ReceiveRequest.{ReceiveRequest}
use Rattle.netif.specs.declared.receive.ReceiveResponse.{ReceiveResponse}

abbrev pub receive_request : Message ReceiveRequest
receive_request = record {
  layout = field 2 ∷ gap 2 ∷ field 4 ∷ [];
  values = λ m. m.id ∷ m.reference ∷ [];
  of = λ vs. record { id = get_or vs 0 0; reference = get_or vs 1 0 };
}

abbrev pub receive_response : Message ReceiveResponse
receive_response = record {
  layout = field 2 ∷ field 2 ∷ field 2 ∷ field 2 ∷ [];
  values = λ m. m.id ∷ m.offset ∷ m.flags ∷ of_z w16 m.status ∷ [];
  of = λ vs. record { id = get_or vs 0 0; offset = get_or vs 1 0; flags = get_or vs 2 0; status = to_z w16 (get_or vs 3 0) };
}
