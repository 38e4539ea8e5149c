-- The code's running HMAC as `digest` defines one.
use Rattle.digest.specs.Hmac.{Keyed}
use Rattle.sha1_digest.specs.View.{view}
use Rattle.hmac.specs.declared.HmacSha1.{HmacSha1}

abbrev pub keyed_view : HmacSha1 → Keyed
keyed_view h = record { inner = view h.inner; outer = view h.outer }
