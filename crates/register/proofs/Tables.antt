-- What the tables say after a block is made or a message is sent: the new entry is as given, and every other one stays.
use Prim.Native.Nat.{ℕ, ◌+◌, ◌<◌}
use mathlib.Core.Path.{◌≡◌, ap}
use mathlib.Core.Bool.{false}
use native.Mathlib.Omega.{arith}
use lib.ListN.{get_or}
use lib.Seq.{get_or-set_same, get_or-set_other}
use Rattle.register.specs.Types.{Header, Content, Book}
use Rattle.register.specs.Books.{office, epoch, block, is_vote, kind_of}
use Rattle.register.specs.Tables.{header_of, content_of, signer_of, about_of}
use Rattle.register.specs.Promises.{Sizes}
use Rattle.register.specs.Effects.{with_block, with_sent}

header_path : {x y : Header} → x.parent ≡ y.parent → x.epoch ≡ y.epoch → x.payload ≡ y.payload → x ≡ y
header_path p e w = λ i. record { parent = p i; epoch = e i; payload = w i }

content_path : {x y : Content} → x.kind ≡ y.kind → x.signer ≡ y.signer → x.about ≡ y.about → x ≡ y
content_path k s b = λ i. record { kind = k i; signer = s i; about = b i }

module _ (r : Book) (sizes : Sizes r) where
  -- the new block
  pub parent_new : (new : Header) → r.last.0 < 255 → get_or (with_block r new).parents (r.last.0 + 1) 0 ≡ new.parent.0
  unfolding with_block
  parent_new new room = get_or-set_same r.parents (r.last.0 + 1) new.parent.0 0 (omega (arith, sizes.parents))

  pub epoch_new : (new : Header) → r.last.0 < 255 → get_or (with_block r new).epochs (r.last.0 + 1) 0 ≡ new.epoch.0
  unfolding with_block
  epoch_new new room = get_or-set_same r.epochs (r.last.0 + 1) new.epoch.0 0 (omega (arith, sizes.epochs))

  -- the new message
  pub signer_new : (actor : ℕ) (new : Content) → r.count < 1024 → signer_of (with_sent r actor new) r.count ≡ new.signer.0
  unfolding with_sent
  signer_new actor new room = get_or-set_same r.signers r.count new.signer.0 0 (omega (arith, sizes.signers))

  pub about_new : (actor : ℕ) (new : Content) → r.count < 1024 → about_of (with_sent r actor new) r.count ≡ new.about.0
  unfolding with_sent
  about_new actor new room = get_or-set_same r.about r.count new.about.0 0 (omega (arith, sizes.about))

-- the other blocks
pub header_other : (r : Book) (new : Header) (b : ℕ) → (b ≡ r.last.0 + 1 → ⊥) → header_of (with_block r new) b ≡ header_of r b
unfolding with_block
header_other r new b d =
    let last : ℕ = r.last.0 + 1 in
    header_path (ap block (get_or-set_other r.parents last b new.parent.0 0 d))
    (ap epoch (get_or-set_other r.epochs last b new.epoch.0 0 d)) (get_or-set_other r.payloads last b new.payload 0 d)

-- the other messages
pub content_other : (r : Book) (actor : ℕ) (new : Content) (m : ℕ) → (m ≡ r.count → ⊥) → content_of (with_sent r actor new) m ≡ content_of r m
unfolding with_sent
content_other r actor new m d =
    content_path (ap kind_of (get_or-set_other r.votes r.count m (is_vote new.kind) false d))
    (ap office (get_or-set_other r.signers r.count m new.signer.0 0 d))
    (ap block (get_or-set_other r.about r.count m new.about.0 0 d))
