-- The replay tape of document 01, "The replay tape": what a field is, which tag is allowed where, what each body is, and the
-- whole tape as the list of its pieces.
use Rattle.std.specs.Prelude.{true, false, cond, ◌&&◌, List, [], ◌∷◌, Option, Some, None, ℕ, zero, suc, ◌+◌, length, get_or, take, drop, eqb, ltb, leb}
use Rattle.stun_address.specs.declared.Ip.{Ip}
use Rattle.stun_address.specs.declared.Ip.TheVariants.{V4, V6}
use Rattle.stun_address.specs.Source.{from_be}
use Rattle.tape.specs.declared.Stage.{Stage}
use Rattle.tape.specs.declared.Stage.TheVariants.{NeedsUsername, NeedsPassword, NeedsTransport, Opened}
use Rattle.tape.specs.declared.Meant.{Meant}
use Rattle.tape.specs.declared.Piece.{Piece}
use Rattle.tape.specs.declared.Piece.TheVariants.{Username, Password, Transport, Ids, Start, Datagram, Send, Poll, Lost, Close}

-- what a body is: of no allowed shape, or a piece that takes its first bytes; the bytes after those are what the piece carries
abbrev pub Meaning : Type 0
Meaning = Option Meant

-- a piece that takes k bytes
abbrev pub means : Piece → ℕ → Meaning
means p k = Some (record { piece = p; taken = k })

-- a body of n bytes that is a piece of k bytes and nothing more
abbrev pub only : ℕ → ℕ → Piece → Meaning
only n k p = cond (eqb n k) (means p k) None

-- a body of n bytes that starts with a piece of k bytes
abbrev pub starts : ℕ → ℕ → Piece → Meaning
starts n k p = cond (leb k n) (means p k) None

-- the big-endian number of k bytes at a place
abbrev pub number_at : List ℕ → ℕ → ℕ → ℕ
number_at body k at = from_be (take k (drop at body))

-- transport: one byte, 0 UDP, 1 reliable
abbrev pub transport : List ℕ → Meaning
transport [] = None
transport (b ∷ []) = cond (eqb b 0) (means (Transport false) 1) (cond (eqb b 1) (means (Transport true) 1) None)
transport (b ∷ c ∷ r) = None

-- an address with the port at 9
abbrev pub to : ℕ → Ip → List ℕ → Piece
to time ip body = Send time (record { ip = ip; port = number_at body 2 9 })

-- send: its time, then at 8 the family, 1 or 2, at 9 the port, at 11 the address of 4 or 16 bytes; the data follow
unfoldable pub send : ℕ → List ℕ → Meaning
send time body =
    cond (eqb (get_or body 8 0) 1) (starts (length body) 15 (to time (V4 (number_at body 4 11)) body))
    (cond (eqb (get_or body 8 0) 2) (starts (length body) 27 (to time (V6 (number_at body 8 11) (number_at body 8 19)) body)) None)

-- 0x10 start, 0x11 datagram, 0x12 send, 0x13 poll
unfoldable pub timed : ℕ → ℕ → List ℕ → Meaning
timed tag time body =
    cond (eqb tag 0x10) (only (length body) 8 (Start time))
    (cond (eqb tag 0x11) (starts (length body) 8 (Datagram time))
    (cond (eqb tag 0x12) (send time body) (cond (eqb tag 0x13) (only (length body) 8 (Poll time)) None)))

-- after the opening: 0x20 ids, of any length, 0x14 lost and 0x15 close are empty, the others begin with an 8-byte time
unfoldable pub call : ℕ → List ℕ → Meaning
call tag body =
    cond (eqb tag 0x20) (starts (length body) 0 Ids)
    (cond (eqb tag 0x14) (only (length body) 0 Lost)
    (cond (eqb tag 0x15) (only (length body) 0 Close)
    (cond (ltb (length body) 8) None (timed tag (number_at body 8 0) body))))

-- a body by the stage, and its tag: 0x01 username, 0x02 password, 0x03 transport, once each and in that order, and then calls
unfoldable pub meaning : Stage → ℕ → List ℕ → Meaning
meaning NeedsUsername tag body = cond (eqb tag 0x01) (starts (length body) 0 Username) None
meaning NeedsPassword tag body = cond (eqb tag 0x02) (starts (length body) 0 Password) None
meaning NeedsTransport tag body = cond (eqb tag 0x03) (transport body) None
meaning Opened tag body = call tag body

-- the stage behind the next field
abbrev pub later : Stage → Stage
later NeedsUsername = NeedsPassword
later NeedsPassword = NeedsTransport
later NeedsTransport = Opened
later Opened = Opened

-- the stage with so many fields of the opening behind it: username, password, transport, or all three
abbrev pub stage_of : ℕ → Stage
stage_of behind = cond (eqb behind 0) NeedsUsername (cond (eqb behind 1) NeedsPassword (cond (eqb behind 2) NeedsTransport Opened))

-- a tape: its pieces in order, each with the bytes that it carries; then its end between two fields, or the place of the tag
-- of a field that is cut or of any other shape
pub data Tape : Type 0 where
  ends : Tape
  bad : ℕ → Tape
  piece : Piece → List ℕ → Tape → Tape

-- a field by what its body means, at a place
abbrev pub entry : Meaning → ℕ → List ℕ → Tape → Tape
entry None at body more = bad at
entry (Some m) at body more = piece m.piece (drop m.taken body) more

-- a field of a tag, two bytes of length and a body of at most 4,096: at most n fields from a place on. A field takes three bytes
-- or more, so that a tape's length is fields enough.
unfoldable pub read_from : ℕ → Stage → ℕ → List ℕ → Tape
read_from zero stage at [] = ends
read_from zero stage at (tag ∷ r) = bad at
read_from (suc n) stage at [] = ends
read_from (suc n) stage at (tag ∷ []) = bad at
read_from (suc n) stage at (tag ∷ high ∷ []) = bad at
read_from (suc n) stage at (tag ∷ high ∷ low ∷ r) =
    let size : ℕ = from_be (high ∷ low ∷ []) in
    cond (leb size 4096 && leb size (length r))
    (entry (meaning stage tag (take size r)) at (take size r) (read_from n (later stage) (at + (3 + size)) (drop size r)))
    (bad at)

unfoldable pub read : List ℕ → Tape
read tape = read_from (length tape) NeedsUsername 0 tape
