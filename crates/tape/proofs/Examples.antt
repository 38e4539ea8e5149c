-- Tapes that are read by computation.
use mathlib.Core.Path.{◌≡◌, refl}
use mathlib.Core.Bool.{true, false}
use mathlib.Core.List.{List, [], ◌∷◌, ◌++◌}
use Prim.Native.Nat.{ℕ}
use lib.ListN.{replicate}
use Rattle.stun_address.specs.declared.Ip.TheVariants.{V4, V6}
use Rattle.tape.specs.declared.Stage.TheVariants.{NeedsUsername, Opened}
use Rattle.tape.specs.declared.Piece.TheVariants.{Username, Password, Transport, Ids, Start, Datagram, Send, Poll, Lost, Close}
use Rattle.tape.specs.declared.Front.TheVariants.{Field, More, Bad}
use Rattle.tape.specs.Tape.{Tape, ends, bad, piece, send, timed, call, meaning, read_from, read}
use Rattle.tape.specs.Window.{next_of}

-- username `a`, password `b`, UDP
abbrev opening : List ℕ
opening = 0x01 ∷ 0 ∷ 1 ∷ 0x61 ∷ 0x02 ∷ 0 ∷ 1 ∷ 0x62 ∷ 0x03 ∷ 0 ∷ 1 ∷ 0 ∷ []

abbrev opened : Tape → Tape
opened rest = piece Username (0x61 ∷ []) (piece Password (0x62 ∷ []) (piece (Transport false) [] rest))

-- an 8-byte time below 65,536
abbrev time : ℕ → ℕ → List ℕ
time high low = 0 ∷ 0 ∷ 0 ∷ 0 ∷ 0 ∷ 0 ∷ high ∷ low ∷ []

-- document 01's tape: one id of zeros, start at 1000, poll at 1499 and 1500, lost
abbrev listed : List ℕ
listed =
    opening ++ (0x20 ∷ 0 ∷ 12 ∷ replicate 12 0) ++ (0x10 ∷ 0 ∷ 8 ∷ time 3 0xE8) ++ (0x13 ∷ 0 ∷ 8 ∷ time 5 0xDB) ++ (0x13 ∷ 0 ∷ 8 ∷ time 5 0xDC)
    ++ (0x14 ∷ 0 ∷ 0 ∷ [])

pub listed_read : read listed
    ≡ opened (piece Ids (replicate 12 0) (piece (Start 1000) [] (piece (Poll 1499) [] (piece (Poll 1500) [] (piece Lost [] ends)))))
unfolding read read_from meaning call timed
listed_read = refl

-- input that ends between fields, even before 0x03
pub nothing_read : read [] ≡ ends
unfolding read read_from
nothing_read = refl

pub early_end : read (0x01 ∷ 0 ∷ 1 ∷ 0x61 ∷ []) ≡ piece Username (0x61 ∷ []) ends
unfolding read read_from meaning
early_end = refl

-- a cut field: a body of two bytes that has one, and a tag alone
pub cut_body : read (0x01 ∷ 0 ∷ 1 ∷ 0x61 ∷ 0x02 ∷ 0 ∷ 2 ∷ 0x62 ∷ []) ≡ piece Username (0x61 ∷ []) (bad 4)
unfolding read read_from meaning
cut_body = refl

pub cut_head : read (opening ++ (0x15 ∷ 0 ∷ [])) ≡ opened (bad 12)
unfolding read read_from meaning
cut_head = refl

-- a wrong order: password first, transport second, a call in the opening, the opening again
pub password_first : read (0x02 ∷ 0 ∷ 1 ∷ 0x62 ∷ []) ≡ bad 0
unfolding read read_from meaning
password_first = refl

pub transport_second : read (0x01 ∷ 0 ∷ 1 ∷ 0x61 ∷ 0x03 ∷ 0 ∷ 1 ∷ 0 ∷ []) ≡ piece Username (0x61 ∷ []) (bad 4)
unfolding read read_from meaning
transport_second = refl

pub call_first : read (0x14 ∷ 0 ∷ 0 ∷ []) ≡ bad 0
unfolding read read_from meaning
call_first = refl

pub opening_again : read (opening ++ (0x01 ∷ 0 ∷ 1 ∷ 0x61 ∷ [])) ≡ opened (bad 12)
unfolding read read_from meaning call timed
opening_again = refl

-- a transport of neither kind, and of two bytes
pub transport_of_two : read (0x01 ∷ 0 ∷ 0 ∷ 0x02 ∷ 0 ∷ 0 ∷ 0x03 ∷ 0 ∷ 1 ∷ 2 ∷ []) ≡ piece Username [] (piece Password [] (bad 6))
unfolding read read_from meaning
transport_of_two = refl

pub transport_long : read (0x01 ∷ 0 ∷ 0 ∷ 0x02 ∷ 0 ∷ 0 ∷ 0x03 ∷ 0 ∷ 2 ∷ 1 ∷ 1 ∷ []) ≡ piece Username [] (piece Password [] (bad 6))
unfolding read read_from meaning
transport_long = refl

-- sends at 1000 to 192.0.2.1 port 32853 and to ::1 port 1, one byte each; family 3
pub sent_v4 : read (opening ++ (0x12 ∷ 0 ∷ 16 ∷ time 3 0xE8) ++ (1 ∷ 0x80 ∷ 0x55 ∷ 192 ∷ 0 ∷ 2 ∷ 1 ∷ 0xAA ∷ []))
    ≡ opened (piece (Send 1000 (record { ip = V4 0xC0000201; port = 32853 })) (0xAA ∷ []) ends)
unfolding read read_from meaning call timed send
sent_v4 = refl

pub sent_v6 : read (opening ++ (0x12 ∷ 0 ∷ 28 ∷ time 3 0xE8) ++ (2 ∷ 0 ∷ 1 ∷ replicate 15 0) ++ (1 ∷ 0xAA ∷ []))
    ≡ opened (piece (Send 1000 (record { ip = V6 0 1; port = 1 })) (0xAA ∷ []) ends)
unfolding read read_from meaning call timed send
sent_v6 = refl

pub family_three : read (opening ++ (0x12 ∷ 0 ∷ 16 ∷ time 3 0xE8) ++ (3 ∷ 0x80 ∷ 0x55 ∷ 192 ∷ 0 ∷ 2 ∷ 1 ∷ 0xAA ∷ [])) ≡ opened (bad 12)
unfolding read read_from meaning call timed send
family_three = refl

-- an empty username and password over a reliable transport, and close
pub closed : read (0x01 ∷ 0 ∷ 0 ∷ 0x02 ∷ 0 ∷ 0 ∷ 0x03 ∷ 0 ∷ 1 ∷ 1 ∷ 0x15 ∷ 0 ∷ 0 ∷ [])
    ≡ piece Username [] (piece Password [] (piece (Transport true) [] (piece Close [] ends)))
unfolding read read_from meaning call
closed = refl

-- a datagram, empty and not; a start with a byte after its time; a 0x14 with a body; a tag of no meaning
pub datagrams : read (opening ++ (0x11 ∷ 0 ∷ 8 ∷ time 0 1) ++ (0x11 ∷ 0 ∷ 10 ∷ time 0 2) ++ (7 ∷ 8 ∷ []))
    ≡ opened (piece (Datagram 1) [] (piece (Datagram 2) (7 ∷ 8 ∷ []) ends))
unfolding read read_from meaning call timed
datagrams = refl

pub start_and_more : read (opening ++ (0x10 ∷ 0 ∷ 9 ∷ time 0 1) ++ (0 ∷ [])) ≡ opened (bad 12)
unfolding read read_from meaning call timed
start_and_more = refl

pub lost_with_body : read (opening ++ (0x14 ∷ 0 ∷ 1 ∷ 0 ∷ [])) ≡ opened (bad 12)
unfolding read read_from meaning call
lost_with_body = refl

pub no_such_tag : read (opening ++ (0x16 ∷ 0 ∷ 8 ∷ time 0 1)) ≡ opened (bad 12)
unfolding read read_from meaning call timed
no_such_tag = refl

-- a body of 4,096 may still come, one of 4,097 is bad at its head
pub longest : next_of NeedsUsername (0x01 ∷ 0x10 ∷ 0x00 ∷ []) false ≡ More
unfolding next_of
longest = refl

pub too_long : next_of NeedsUsername (0x01 ∷ 0x10 ∷ 0x01 ∷ []) false ≡ Bad
unfolding next_of
too_long = refl

-- where a send's data lies
pub sent_front : next_of Opened ((0x12 ∷ 0 ∷ 16 ∷ time 3 0xE8) ++ (1 ∷ 0x80 ∷ 0x55 ∷ 192 ∷ 0 ∷ 2 ∷ 1 ∷ 0xAA ∷ 0x14 ∷ [])) false
    ≡ Field (Send 1000 (record { ip = V4 0xC0000201; port = 32853 })) 19 18 1
unfolding next_of meaning call timed send
sent_front = refl
