-- `turn_packet::auth` meets its contract: with both a realm and a nonce three attributes, one behind the other, otherwise none.
use mathlib.Core.Path.{◌≡◌, sym, ap, ◌∙◌}
use mathlib.Core.Bool.{true, false}
use Prim.Native.Nat.{◌+◌}
use native.Mathlib.Omega.{arith}
use lib.ListN.{length}
use Rattle.stun_write.specs.Source.{attr_size, push_attr, attributes}
use Rattle.stun_write.proofs.Lengths.{length-push_attr}
use Rattle.turn_state.specs.View.{text_in}
use Rattle.turn_packet.specs.Source.{text_size, auth_size}
use Rattle.turn_packet.proofs.Laws.{both, text_bound, two_texts, auth_both, auth_no_nonce, auth_no_realm, length_text}
use Rattle.turn_packet.proofs.Places.{put_eq, put_none, three}
use Rattle.turn_packet.proofs.Rooms.{rooms}
use borrow.Author.Rules.{rules}
use Rattle.turn_packet.proofs.auth.Goals as goal

pub text-a-requires : goal.text-a-requires
text-a-requires c =
    let a = c.args.c in
    let nonce : c.args.c.has_nonce ≡ true = search rules in
    let e = both (text_size a.username + text_size a.realm + text_size a.nonce) c.if-with_realm.true nonce in
    (omega arith, omega (arith, e))

pub text-b-requires : goal.text-b-requires
text-b-requires c =
    let a = c.args.c in
    let nonce : c.args.c.has_nonce ≡ true = search rules in
    let e = both (text_size a.username + text_size a.realm + text_size a.nonce) c.if-with_realm.true nonce in
    (omega arith, omega (arith, e))

pub text-requires : goal.text-requires
text-requires c =
    let a = c.args.c in
    let nonce : c.args.c.has_nonce ≡ true = search rules in
    let e = both (text_size a.username + text_size a.realm + text_size a.nonce) c.if-with_realm.true nonce in (
      two_texts c.args.at c.text-a.result c.text-b.result (text_size a.username) (text_size a.realm) c.requires.0
          (text_bound a.username) (text_bound a.realm) c.text-a.ensures.0 c.text-b.ensures.0,
      omega (arith, e),
    )

pub returns-then-with_nonce : goal.returns-then-with_nonce
returns-then-with_nonce c =
    let a = c.args.c in
    let nonce : c.args.c.has_nonce ≡ true = search rules in
    let e = both (text_size a.username + text_size a.realm + text_size a.nonce) c.if-with_realm.true nonce in
    let g = rooms a _ c.well_formed.1.1.0 in
    let u : length (push_attr 0x0006 (text_in a.username)) ≡ text_size a.username =
    length-push_attr 0x0006 (text_in a.username) ∙ ap attr_size (length_text a.username g.username) in
    let r : length (push_attr 0x0014 (text_in a.realm)) ≡ text_size a.realm =
    length-push_attr 0x0014 (text_in a.realm) ∙ ap attr_size (length_text a.realm g.realm) in
    let z : text_size a.username + (text_size a.realm + text_size a.nonce) ≡ auth_size a = omega (arith, e) in
    put_eq c.args.out.now c.text.new.out c.args.at c.text.result (ap attributes (sym (auth_both a c.if-with_realm.true nonce))) z
    (three c.args.out.now c.text-a.new.out c.text-b.new.out c.text.new.out
    (push_attr 0x0006 (text_in a.username)) (push_attr 0x0014 (text_in a.realm)) (push_attr 0x0015 (text_in a.nonce))
    c.args.at (text_size a.username) (text_size a.realm) (text_size a.nonce) c.text-a.result c.text-b.result c.text.result
    u r (omega arith) (omega (arith, e)) c.text-a.ensures c.text-b.ensures c.text.ensures)

pub returns-then-with_realm : goal.returns-then-with_realm
returns-then-with_realm c =
    let a = c.args.c in
    let none : c.args.c.has_nonce ≡ false = search rules in
    put_eq c.args.out.now c.args.out.now c.args.at c.args.at (ap attributes (sym (auth_no_nonce a c.if-with_realm.true none)))
    (rw (c.if-with_realm.true, none)) (put_none c.args.out.now c.args.at)

pub returns : goal.returns
returns c =
    let a = c.args.c in
    put_eq c.args.out.now c.args.out.now c.args.at c.args.at (ap attributes (sym (auth_no_realm a c.if-with_realm.false))) (rw c.if-with_realm.false) (put_none c.args.out.now c.args.at)
