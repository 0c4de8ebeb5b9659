-- Document 01, "Capture program": a capture's count, its table and its payloads.
use Rattle.std.specs.Prelude.{ℕ, zero, suc, ◌+◌, ◌*◌, Bool, cond, List, length, take, drop, eqb, leb, Result, Ok, Err, is_ok}
use Rattle.octets.specs.Octets.{two_at, four_at}
use Rattle.frame.specs.Places.{up_to}
use Rattle.capture.specs.declared.Packet.{Packet}
use Rattle.capture.specs.declared.Fault.{Fault}
use Rattle.capture.specs.declared.Fault.TheVariants.{TooLong, NoCount, TooManyPackets, TableCut, PayloadsCut, OctetsLeft}

-- "A box hands us source number (32 bits), sequence number (16 bits), timestamp (32 bits) and payload"
pub record Heard : Type 0 where
  pub source : ℕ
  pub sequence : ℕ
  pub timestamp : ℕ
  pub payload : List ℕ

-- a packet that the code has at hand, its payload in the capture's own octets
abbrev pub as_heard : Packet → Heard
as_heard p = record { source = p.source; sequence = p.sequence; timestamp = p.timestamp; payload = p.payload.now }

-- "big-endian: count (2, at most 256)"
abbrev pub count_of : List ℕ → ℕ
count_of c = two_at c 0

-- "then its table, per packet source (4), sequence (2), timestamp (4), length (2)": row i starts at 2 + 12 i
abbrev pub length_at : List ℕ → ℕ → ℕ
length_at c i = two_at c (2 + 12 * i + 10)

-- the octets of the first n payloads
unfoldable pub lengths : List ℕ → ℕ → ℕ
lengths c zero = 0
lengths c (suc n) = lengths c n + length_at c n

-- "then all payloads in table order": payload i starts behind the table and the payloads before it
unfoldable pub start_at : List ℕ → ℕ → ℕ
start_at c i = 2 + 12 * count_of c + lengths c i

-- packet i: "per packet source (4), sequence (2), timestamp (4), length (2)", and its payload
unfoldable pub heard_at : List ℕ → ℕ → Heard
heard_at c i =
    record {
      source = four_at c (2 + 12 * i);
      sequence = two_at c (2 + 12 * i + 4);
      timestamp = four_at c (2 + 12 * i + 6);
      payload = take (length_at c i) (drop (start_at c i) c);
    }

-- the packets of a capture, in order
unfoldable pub packets_in : List ℕ → List Heard
packets_in c = up_to (heard_at c) (count_of c)

-- "then all payloads in table order, nothing after": n octets end where the last payload does, or are cut, or left over
unfoldable pub end_fault : ℕ → ℕ → Result Unit Fault
end_fault end n = cond (eqb end n) (Ok tt) (cond (leb end n) (Err (OctetsLeft end)) (Err (PayloadsCut end)))

-- "then its table, per packet source (4), sequence (2), timestamp (4), length (2)"
unfoldable pub table_fault : List ℕ → Result Unit Fault
table_fault c =
    cond (leb (2 + 12 * count_of c) (length c)) (end_fault (start_at c (count_of c)) (length c)) (Err (TableCut (2 + 12 * count_of c)))

-- "count (2, at most 256)"
unfoldable pub count_fault : List ℕ → Result Unit Fault
count_fault c = cond (leb 2 (length c)) (cond (leb (count_of c) 256) (table_fault c) (Err (TooManyPackets (count_of c)))) (Err NoCount)

-- why octets are no capture, the first reason: "A capture is at most 65,536 octets, big-endian", and so on
unfoldable pub fault_of : List ℕ → Result Unit Fault
fault_of c = cond (leb (length c) 65536) (count_fault c) (Err TooLong)

-- "A bad capture": one in which a fault is found
unfoldable pub good : List ℕ → Bool
good c = is_ok (fault_of c)
