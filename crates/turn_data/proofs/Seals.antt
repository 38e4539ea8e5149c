-- What the writers leave, over lists: the plain header around two attributes, ChannelData in a room that is long enough, and the
-- answers of each.
use Rattle.std.specs.Prelude.{Ok, Err}
use Rattle.stun_frame.specs.declared.Unwritten.TheVariants.{TooLong, NoRoom}
use mathlib.Core.Path.{◌≡◌, sym, ap, ap₂, ◌∙◌}
use mathlib.Core.Bool.{false, cond}
use mathlib.Core.List.{List, ◌++◌, append_assoc}
use Prim.Native.Nat.{ℕ, ◌+◌, ◌-◌, ◌≤◌, ◌<◌}
use native.Mathlib.Omega.{arith}
use lib.ListN.{length, take, drop, length-append, length-take, length-drop}
use lib.Seq.{take_at, drop_at, length-take-le}
use lib.Dec.{ltb, leb}
use borrow.Author.Tests.{le-ltb, lt-ltb}
use borrow.Rule.Slice.PartMut.{mid_of}
use Rattle.stun_frame.specs.Source.{room_after, encode_channel_data, written, Written}
use Rattle.stun_frame.proofs.Writing.{length_channel_data}
use Rattle.stun_address.specs.declared.Ip.{Ip}
use Rattle.stun_address.specs.declared.Address.{Address}
use Rattle.stun_address.specs.Source.{encode_xor_addr}
use Rattle.stun_write.specs.Source.{push_attr, attr_size, unsigned, encoded, sealed_size, fitted}
use Rattle.stun_write.proofs.Answers.{is_bytes}
use Rattle.turn_packet.specs.Source.{address_size}
use Rattle.turn_packet.proofs.Places.{Put, two}
use Rattle.turn_packet.proofs.Whole.{refused, answered}
use Rattle.turn_data.specs.Data.{indication_of, indication_size, frame_size}
use Rattle.turn_data.proofs.Laws.{indication_body, indication_is, length-peer, length-indication_body, indication_bound}

-- a header alone around attributes that stand behind its place
pub sealed_plain : (out o after body id : List ℕ) (n end typ : ℕ) (r : Written) → length body ≡ n → 20 + n ≤ length out → 20 + n ≤ 65555
    → Put out 20 body n end o
    → (r ≡ fitted (sealed_size (end - 20) false false) (length o))
    × (after ≡ room_after r (encoded typ id (take (end - 20) (drop 20 o)) unsigned false) o)
    → (r ≡ Ok (20 + n)) × (after ≡ encoded typ id body unsigned false ++ drop (20 + n) out)
sealed_plain out o after body id n end typ r lb w g p e =
    let lt : length (take 20 out) ≡ 20 = length-take-le 20 out (omega arith) in
    let lf : length (take 20 out ++ body) ≡ 20 + n = length-append (take 20 out) body ∙ ap₂ (λ (x y : ℕ). x + y) lt lb in
    let lo : length o ≡ length out =
    ap length p.1 ∙ length-append (take 20 out ++ body) (drop (20 + n) out) ∙ ap₂ (λ (x y : ℕ). x + y) lf (length-drop (20 + n) out) ∙ omega arith in
    let en : end - 20 ≡ n = omega (arith, p.0) in
    let b : take (end - 20) (drop 20 o) ≡ body =
    ap₂ (λ (k : ℕ) (l : List ℕ). take k (drop 20 l)) en (p.1 ∙ append_assoc (take 20 out) body (drop (20 + n) out))
    ∙ ap (take n) (drop_at (take 20 out) (body ++ drop (20 + n) out) 20 lt) ∙ take_at body _ n lb in
    let z : sealed_size (end - 20) false false ≡ 20 + n = omega arith in
    let due : r ≡ Ok (20 + n) = e.0 ∙ ap₂ (λ (x y : ℕ). fitted x y) z lo ∙ is_bytes (20 + n) (length out) g w in
    let d : drop (20 + n) o ≡ drop (20 + n) out = ap (drop (20 + n)) p.1 ∙ drop_at (take 20 out ++ body) (drop (20 + n) out) (20 + n) lf in (
      due,
      e.1 ∙ ap₂ (λ (x : Written) (l : List ℕ). room_after x (encoded typ id l unsigned false) o) due b
          ∙ ap (λ (l : List ℕ). encoded typ id body unsigned false ++ l) d,
    )

-- the peer, the data behind it, and the header before both
pub indication_put : (peer : Address) (id body out o₁ o₂ after : List ℕ) (a b : ℕ) (r : Written) → length id ≡ 12 → length body ≤ 2048
    → indication_size peer (length body) ≤ length out
    → Put out 20 (push_attr 0x0012 (encode_xor_addr peer id)) (address_size peer.ip) a o₁
    → Put o₁ a (push_attr 0x0013 body) (attr_size (length body)) b o₂
    → (r ≡ fitted (sealed_size (b - 20) false false) (length o₂))
    × (after ≡ room_after r (encoded 0x0016 id (take (b - 20) (drop 20 o₂)) unsigned false) o₂)
    → (r ≡ Ok (indication_size peer (length body))) × (after ≡ indication_of peer id body ++ drop (indication_size peer (length body)) out)
indication_put peer id body out o₁ o₂ after a b r li h w p q s =
    let n : ℕ = address_size peer.ip + attr_size (length body) in
    let z : 20 + n ≡ indication_size peer (length body) = omega arith in
    let u : Put out 20 (indication_body peer id body) n b o₂ =
    two out o₁ o₂ (push_attr 0x0012 (encode_xor_addr peer id)) (push_attr 0x0013 body) 20 (address_size peer.ip) (attr_size (length body)) a b
    (length-peer peer id li) (omega arith) p q in
    let f = sealed_plain out o₂ after (indication_body peer id body) id n b 0x0016 r (length-indication_body peer id body li) (omega arith)
    (omega (arith, indication_bound peer (length body))) u s in
    (f.0 ∙ ap (λ (k : ℕ). Ok k) z, f.1 ∙ ap₂ (λ (l : List ℕ) (k : ℕ). l ++ drop k out) (sym (indication_is peer id body)) z)

-- the room that is lent on, from `start` to the end
pub rest_room : (out : List ℕ) (start size : ℕ) → start + size ≤ length out → size ≤ length (mid_of start (length out - start) out)
rest_room out start size h = rw length-take (omega (arith, length-drop start out))

-- ChannelData that fits
pub frame_put : (number : ℕ) (body out after : List ℕ) (r : Written) → length body ≤ 65535 → frame_size (length body) ≤ length out
    → (r ≡ written number body out) × (after ≡ room_after r (encode_channel_data number body) out)
    → (r ≡ Ok (frame_size (length body))) × (after ≡ encode_channel_data number body ++ drop (frame_size (length body)) out)
unfolding written
frame_put number body out after r h w e =
    let v : List ℕ = encode_channel_data number body in
    let l : length v ≡ frame_size (length body) = length_channel_data number body in
    let due : r ≡ Ok (length v) = e.0 ∙ rw (le-ltb 65535 (length body) h, le-ltb (length out) (length v) (omega arith)) in
    (due ∙ ap (λ (k : ℕ). Ok k) l, e.1 ∙ ap (λ (x : Written). room_after x v out) due ∙ ap (λ (k : ℕ). v ++ drop k out) l)

-- the answers, by the data's length n and the packet's size k
pub answer_long : (n : ℕ) (w : Written) → 2048 < n → (Err TooLong) ≡ cond (ltb 2048 n) (Err TooLong) w
answer_long n w h = rw (lt-ltb 2048 n h)

pub answer_narrow : (n at k room : ℕ) → n ≤ 2048 → room < at + 3 + k
    → (Err NoRoom) ≡ cond (ltb 2048 n) (Err TooLong) (cond (leb (at + 3 + k) room) (Ok (at + 3 + k)) (Err NoRoom))
answer_narrow n at k room h g = rw (le-ltb 2048 n h) (refused (at + 3 + k) room g)

pub answer_bytes : (n at size k room : ℕ) → n ≤ 2048 → size ≡ k → at + 3 + k ≤ room
    → Ok (at + 3 + size) ≡ cond (ltb 2048 n) (Err TooLong) (cond (leb (at + 3 + k) room) (Ok (at + 3 + k)) (Err NoRoom))
answer_bytes n at size k room h e g = rw (le-ltb 2048 n h) (answered at size k room e g)

-- the size by the limit on n, and by the family
pub size_over : (n k : ℕ) → 65535 < n → 0 ≡ cond (ltb 65535 n) 0 k
size_over n k h = rw (lt-ltb 65535 n h)

pub size_at : (peer : Address) (ip : Ip) (n k size : ℕ) → n ≤ 65535 → peer.ip ≡ ip → address_size ip ≡ k → size ≡ 20 + k + attr_size n
    → size ≡ cond (ltb 65535 n) 0 (indication_size peer n)
size_at peer ip n k size h e f g = rw (le-ltb 65535 n h) (g ∙ ap (λ (x : ℕ). 20 + x + attr_size n) (sym f ∙ ap address_size (sym e)))

pub size_within : (n k size : ℕ) → n ≤ 65535 → size ≡ cond (ltb 65535 n) 0 k → size ≡ k
size_within n k size h e = e ∙ rw (le-ltb 65535 n h)
