-- The media types of files (RFC 9110, section 8.3, by their names at IANA). Which ending stands for which is this project's own.
use Rattle.std.specs.Prelude.{ℕ, Bool, ◌||◌, List, codes, nat_eq, if◌then◌else◌}
use Rattle.std.specs.List.{ends_with}

-- the name ends so
abbrev pub has_ending : List ℕ → List ℕ → Bool
has_ending name ending = ends_with nat_eq name ending

-- pictures and fonts, and bytes of which nothing is known
abbrev pub picture_type_of : List ℕ → List ℕ
picture_type_of name =
    if has_ending name (codes ".svg") then codes "image/svg+xml"
    else if has_ending name (codes ".png") then codes "image/png"
    else if has_ending name (codes ".jpg") || has_ending name (codes ".jpeg") then codes "image/jpeg"
    else if has_ending name (codes ".webp") then codes "image/webp"
    else if has_ending name (codes ".ico") then codes "image/vnd.microsoft.icon"
    else if has_ending name (codes ".woff2") then codes "font/woff2"
    else codes "application/octet-stream"

-- texts, and else those
abbrev pub content_type_of : List ℕ → List ℕ
content_type_of name =
    if has_ending name (codes ".html") then codes "text/html; charset=utf-8"
    else if has_ending name (codes ".css") then codes "text/css; charset=utf-8"
    else if has_ending name (codes ".js") || has_ending name (codes ".mjs") then codes "text/javascript; charset=utf-8"
    else if has_ending name (codes ".json") then codes "application/json"
    else if has_ending name (codes ".webmanifest") then codes "application/manifest+json"
    else if has_ending name (codes ".txt") || has_ending name (codes ".md") then codes "text/plain; charset=utf-8"
    else picture_type_of name
