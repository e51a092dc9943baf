-- Four runs, and what each answers.
use Rattle.std.specs.Prelude.{◌≡◌, List, [], ◌∷◌, ◌++◌, ℕ, pos, negsuc}
use Rattle.layout.specs.Layout.{le}
use Rattle.answer.specs.Parts.{plain}
use Rattle.answer.specs.declared.parts.Layer.TheVariants.{InFrame, InGrant, InRing}
use Rattle.answer.specs.declared.parts.AnswerParts.{AnswerParts}
use Rattle.law.specs.Call.{Call, Take, Give, Load, Store, Entry, End, Map, Send, Next, Connect, Serve, Complete, Disconnect}
use Rattle.law_runs.specs.Tried.{answers, loaded, refused, segment, head}

-- Domain 1 takes frame 0 as its ring page and frame 1 for data, grants both to domain 0, by its entries 0 and 5, and
-- connects a block ring.
abbrev pub with_disk : List Call → List Call
with_disk cs =
    Take 1 0 ∷ Take 1 1
    ∷ Entry 1 0 1 0 0 ∷ Entry 1 5 1 0 1
    ∷ Connect 1 0 0
    ∷ cs

-- all are accepted, and the connection is 0
abbrev pub with_disk_answers : List AnswerParts → List AnswerParts
with_disk_answers rest = plain 0 ∷ plain 0 ∷ plain 0 ∷ plain 0 ∷ plain 0 ∷ rest

-- It writes sector 1 of its frame to sector 2 of the disk, by its request 21 in slot 0, and reads that back into
-- sector 3 of its frame, by its request 22 in slot 1.
abbrev pub write_and_read : List Call
write_and_read = with_disk (
    Store 1 1 512 (7 ∷ 8 ∷ 6 ∷ [])
    ∷ Store 1 0 64 (head 1 1 21 2 ++ segment 5 1 1)
    ∷ Store 1 0 0 (le 4 1)
    ∷ Serve 0
    ∷ Complete 0
    ∷ Complete 0
    ∷ Load 1 0 64 16
    ∷ Store 1 0 176 (head 0 1 22 2 ++ segment 5 3 3)
    ∷ Store 1 0 0 (le 4 2)
    ∷ Serve 0
    ∷ Give 1 1
    ∷ Complete 0
    ∷ Load 1 1 1535 5
    ∷ Load 1 0 176 16
    ∷ Next 1
    ∷ Next 1
    ∷ Serve 0
    ∷ Give 1 1
    ∷ Disconnect 0
    ∷ Give 1 0
    ∷ [])

-- A store and a load answer their length; serve answers 1 for a request handed over, 0 for none; complete 1 for a job
-- completed, 0 where none is ready. A frame with a segment mapped is not given back: -41. The first response raises
-- the index to 1, of which a fresh page asks to be told, so port 1 is pending once; the second does not.
abbrev pub write_and_read_answers : List AnswerParts
write_and_read_answers = with_disk_answers (
    plain 3
    ∷ plain 32
    ∷ plain 4
    ∷ plain 1
    ∷ plain 1
    ∷ plain 0
    ∷ plain 16
    ∷ plain 32
    ∷ plain 4
    ∷ plain 1
    ∷ refused InFrame 40
    ∷ plain 1
    ∷ plain 5
    ∷ plain 16
    ∷ plain 1
    ∷ plain 0
    ∷ plain 0
    ∷ plain 0
    ∷ plain 0
    ∷ plain 0
    ∷ [])

-- The response in slot 0 has id 21, operation 1 and status 0; of the frame, the byte before sector 3 is as it was and
-- then come the bytes that were written; the response in slot 1 has id 22, operation 0 and status 0.
abbrev pub write_and_read_bytes : List ℕ
write_and_read_bytes =
    (21 ∷ 0 ∷ 0 ∷ 0 ∷ 0 ∷ 0 ∷ 0 ∷ 0 ∷ 1 ∷ 0 ∷ 0 ∷ 0 ∷ 0 ∷ 0 ∷ 0 ∷ 0 ∷ [])
    ++ (0 ∷ 7 ∷ 8 ∷ 6 ∷ 0 ∷ [])
    ++ (22 ∷ 0 ∷ 0 ∷ 0 ∷ 0 ∷ 0 ∷ 0 ∷ 0 ∷ 0 ∷ 0 ∷ 0 ∷ 0 ∷ 0 ∷ 0 ∷ 0 ∷ 0 ∷ [])

-- Domain 2 has a send ring in frame 0 and data in frame 1, domain 3 a receive ring in frame 2 and data in frame 3.
-- The receive is handed over first, and waits for a packet; then three bytes from byte 100 of frame 1 are sent.
abbrev pub packet : List Call
packet =
    Take 2 0 ∷ Take 2 1 ∷ Take 3 2 ∷ Take 3 3
    ∷ Entry 2 0 1 0 0 ∷ Entry 2 1 1 0 1 ∷ Entry 3 0 1 0 2 ∷ Entry 3 1 1 0 3
    ∷ Connect 2 1 0
    ∷ Connect 3 2 0
    ∷ Store 2 1 100 (8 ∷ 7 ∷ 5 ∷ [])
    ∷ Store 2 0 64 (le 4 1 ++ le 2 100 ++ le 2 0 ++ le 2 3 ++ le 2 3)
    ∷ Store 2 0 0 (le 4 1)
    ∷ Store 3 2 64 (le 2 77 ++ le 2 0 ++ le 4 1)
    ∷ Store 3 2 0 (le 4 1)
    ∷ Serve 1
    ∷ Complete 1
    ∷ Serve 0
    ∷ Give 3 3
    ∷ Complete 1
    ∷ Complete 1
    ∷ Complete 1
    ∷ Load 3 3 0 4
    ∷ Load 2 0 64 4
    ∷ Load 3 2 64 8
    ∷ Load 3 1 100 3
    ∷ Next 2
    ∷ Next 3
    ∷ Send 3 2
    ∷ Next 0
    ∷ Give 3 3
    ∷ Disconnect 1
    ∷ []

-- The connections are 0 and 1, and their ports 1 and 2. No order is ready while only the receive is in hand; then the
-- send is, and after it the receive. Domain 3 may not load from domain 2's frame: -8.
abbrev pub packet_answers : List AnswerParts
packet_answers =
    plain 0 ∷ plain 0 ∷ plain 0 ∷ plain 0
    ∷ plain 0 ∷ plain 0 ∷ plain 0 ∷ plain 0
    ∷ plain 0
    ∷ plain 1
    ∷ plain 3
    ∷ plain 12
    ∷ plain 4
    ∷ plain 8
    ∷ plain 4
    ∷ plain 1
    ∷ plain 0
    ∷ plain 1
    ∷ refused InFrame 40
    ∷ plain 1
    ∷ plain 1
    ∷ plain 0
    ∷ plain 4
    ∷ plain 4
    ∷ plain 8
    ∷ refused InFrame 7
    ∷ plain 1
    ∷ plain 2
    ∷ plain 0
    ∷ plain 2
    ∷ plain 0
    ∷ plain 0
    ∷ []

-- The packet stands at the start of frame 3. The send's response has id 3 and status 0; the receive's id 77, offset
-- and flags 0, and as its status the packet's length.
abbrev pub packet_bytes : List ℕ
packet_bytes =
    (8 ∷ 7 ∷ 5 ∷ 0 ∷ [])
    ++ (3 ∷ 0 ∷ 0 ∷ 0 ∷ [])
    ++ (77 ∷ 0 ∷ 0 ∷ 0 ∷ 0 ∷ 0 ∷ 3 ∷ 0 ∷ [])

-- Domain 1 asks for a write of two segments; the first is granted by entry 5, the second names entry 9, which grants
-- nothing.
abbrev pub second_refused : List Call
second_refused = with_disk (
    Store 1 0 64 (head 1 2 11 0 ++ segment 5 0 0 ++ segment 9 0 0)
    ∷ Store 1 0 0 (le 4 1)
    ∷ Serve 0
    ∷ Load 1 0 64 16
    ∷ Load 1 0 8 4
    ∷ Give 1 1
    ∷ Complete 0
    ∷ [])

-- Serve answers 2, with the layer and the number of the refused map, and the segment's number; the first segment is
-- mapped no more, so its frame is given back, and the device has nothing in hand.
abbrev pub second_refused_answers : List AnswerParts
second_refused_answers = with_disk_answers (
    plain 40
    ∷ plain 4
    ∷ record { answer = pos 2; layer = InGrant; detail = negsuc 0; place = 1 }
    ∷ plain 16
    ∷ plain 4
    ∷ plain 0
    ∷ plain 0
    ∷ [])

-- The response has id 11, operation 1 and status -1, and the page tells of one response.
abbrev pub second_refused_bytes : List ℕ
second_refused_bytes =
    (11 ∷ 0 ∷ 0 ∷ 0 ∷ 0 ∷ 0 ∷ 0 ∷ 0 ∷ 1 ∷ 0 ∷ 255 ∷ 255 ∷ 0 ∷ 0 ∷ 0 ∷ 0 ∷ [])
    ++ (1 ∷ 0 ∷ 0 ∷ 0 ∷ [])

-- Domain 1 asks for a read of sector 1 into sector 2 of its frame. When that is in hand it tries to end entry 5, then
-- writes over it.
abbrev pub withdrawn : List Call
withdrawn = with_disk (
    Store 1 0 64 (head 0 1 7 1 ++ segment 5 2 2)
    ∷ Store 1 0 0 (le 4 1)
    ∷ Serve 0
    ∷ End 1 5
    ∷ Entry 1 5 0 0 0
    ∷ Give 1 1
    ∷ Take 2 1
    ∷ Disconnect 0
    ∷ Complete 0
    ∷ Load 1 1 1023 3
    ∷ Load 1 0 64 16
    ∷ Give 1 1
    ∷ Take 2 1
    ∷ Map 2 1 5 0
    ∷ [])

-- An entry in use is not ended by end, and a connection with a job not disconnected: -41. The entry once written over,
-- the frame is pinned all the same: give gets -41, and nobody else may take it, until the job is completed.
abbrev pub withdrawn_answers : List AnswerParts
withdrawn_answers = with_disk_answers (
    plain 32
    ∷ plain 4
    ∷ plain 1
    ∷ refused InGrant 40
    ∷ plain 0
    ∷ refused InFrame 40
    ∷ refused InFrame 40
    ∷ refused InRing 40
    ∷ plain 1
    ∷ plain 3
    ∷ plain 16
    ∷ plain 0
    ∷ plain 0
    ∷ refused InGrant 0
    ∷ [])

-- The disk's nines stand in sector 2 of frame 1, which is still domain 1's, and the response has id 7, operation 0 and
-- status 0.
abbrev pub withdrawn_bytes : List ℕ
withdrawn_bytes =
    (0 ∷ 9 ∷ 9 ∷ [])
    ++ (7 ∷ 0 ∷ 0 ∷ 0 ∷ 0 ∷ 0 ∷ 0 ∷ 0 ∷ 0 ∷ 0 ∷ 0 ∷ 0 ∷ 0 ∷ 0 ∷ 0 ∷ 0 ∷ [])

pub record Closed : Type 0 where
  pub write_and_read_answered : answers 2 write_and_read ≡ write_and_read_answers
  pub write_and_read_loaded : loaded 2 write_and_read ≡ write_and_read_bytes
  pub packet_answered : answers 4 packet ≡ packet_answers
  pub packet_loaded : loaded 4 packet ≡ packet_bytes
  pub second_refused_answered : answers 2 second_refused ≡ second_refused_answers
  pub second_refused_loaded : loaded 2 second_refused ≡ second_refused_bytes
  pub withdrawn_answered : answers 2 withdrawn ≡ withdrawn_answers
  pub withdrawn_loaded : loaded 2 withdrawn ≡ withdrawn_bytes
