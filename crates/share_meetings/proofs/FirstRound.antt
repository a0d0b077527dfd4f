-- A new share without edits serves a mirror of all items: it learns the table, logs in, reads one listing and logs out.
use Rattle.std.proofs.Common.{◌≡◌, ◌+◌, ℕ, List, [], ◌∷◌, ◌++◌, length, true, false, Option, Some, None, refl, sym, ◌∙◌, inl, inr, append-nil, arith}
use Rattle.dmap_tags.specs.Spelling.{spelling}
use Rattle.dmap_tags.specs.Tree.{Tree}
use Rattle.code_table.specs.Reply.{table_reply}
use Rattle.code_table.specs.Standard.{standard_rows}
use Rattle.item_model.specs.declared.changes.Entry.{Entry}
use Rattle.item_model.specs.declared.changes.Entry.TheVariants as entry
use Rattle.item_model.specs.declared.query.Query.{Query}
use Rattle.item_model.specs.declared.request.Meta.{Meta}
use Rattle.item_model.specs.declared.request.Target.TheVariants.{Items}
use Rattle.http_front.specs.ReplyHeads.{reply_head_text}
use Rattle.http_front.specs.Readings.{IsReading, reading}
use Rattle.http_front.proofs.ReadingLaws.{joined_before, nothing_read as no_bytes_read}
use Rattle.http_client.specs.Requests.{request_text}
use Rattle.share_asks.specs.declared.ask.Ask.{Ask}
use Rattle.share_asks.specs.declared.ask.Role.TheVariants.{Listen}
use Rattle.share_asks.specs.declared.ask.Want.{Want}
use Rattle.share_asks.specs.declared.ask.Want.TheVariants as want
use Rattle.share_asks.specs.declared.form.BodyForm.TheVariants.{Dmap, NoBody}
use Rattle.share_history.specs.Bodies.{listing_body}
use Rattle.share_history.specs.Histories.{batches}
use Rattle.share_history.specs.Listings.{Listing, listing}
use Rattle.share_history.specs.Mirror.{mirror_look}
use Rattle.share_replies.specs.Replies.{Nothing, Tagged}
use Rattle.share_replies.specs.Settings.{Settings}
use Rattle.share_replies.specs.SmallBodies.{login_body}
use Rattle.share_server.specs.declared.report.LinkEnd.TheVariants.{Closed as closed}
use Rattle.share_server.specs.declared.report.Served.{Served}
use Rattle.share_server.specs.Replies.{GoOn, replies}
use Rattle.share_server.specs.Served.{AreServed}
use Rattle.mirror_core.proofs.AfterFacts.{answer_is_listing}
use Rattle.mirror_client.specs.Exchanges.{AreAnswered, Exchange, messages}
use Rattle.mirror_client.specs.Points.{nothing_read, place}
use Rattle.mirror_client.specs.Runs.{Followed}
use Rattle.mirror_client.specs.Stages.{Asking, Begun, Closed, Holding, Learned, Path}
use Rattle.mirror_client.specs.Steps.{Known, TellsListing, all_applied, with_listings}
use Rattle.share_history.specs.Whole.{IsWhole}
use Rattle.share_meetings.proofs.BodiesRead.{listing_body_read}
use Rattle.share_meetings.proofs.FilterShown.{few, login_tag, standard_back, table_tag}
use Rattle.share_meetings.proofs.HeadsRead.{empty_read, tag_read}
use Rattle.share_meetings.specs.Examples.{new_mirror}
use Rattle.share_meetings.specs.Links.{AnsweredAll, ServedLink}
use Rattle.share_meetings.specs.MirrorLaws.{MirrorsAreServed}
use Rattle.share_meetings.specs.Mirrors.{CanBeAsked}
use Rattle.share_meetings.proofs.Answering.{open_ask}
use Rattle.share_meetings.proofs.Asking.{codes_back, login_back, logout_back, rows_back}

-- ---- the requests, and how the share answers them

abbrev after_login : ℕ → List Entry
after_login by = entry.Login by 1 ∷ []

abbrev at_end : ℕ → List Entry
at_end by = entry.Login by 1 ∷ entry.Logout by 1 ∷ []

abbrev rows_want : Option Query → Meta → Want
rows_want query meta = want.Rows 1 Items (mirror_look query meta 0)

abbrev all_asks : Option Query → Meta → List Ask
all_asks query meta = open_ask Listen want.Codes ∷ open_ask Listen want.Login ∷ open_ask Listen (rows_want query meta) ∷ open_ask Listen (want.Logout 1) ∷ []

abbrev all_served : List Served
all_served =
    record { session = 0; seen = 0; point = 0; status = 200; added = false } ∷ record { session = 1; seen = 0; point = 1; status = 200; added = true }
    ∷ record { session = 1; seen = 0; point = 1; status = 200; added = false } ∷ record { session = 1; seen = 0; point = 2; status = 204; added = true } ∷ []

none_whole : IsWhole []
none_whole = record { edits = tt; few_edits = omega arith; few_entries = omega arith }

login_whole : (by : ℕ) → IsWhole (after_login by)
login_whole by = record { edits = tt; few_edits = omega arith; few_entries = omega arith }

end_whole : (by : ℕ) → IsWhole (at_end by)
end_whole by = record { edits = tt; few_edits = omega arith; few_entries = omega arith }

are_served : (s : Settings) (by : ℕ) (query : Option Query) (meta : Meta) → AreServed s by (at_end by) (all_asks query meta) all_served
are_served s by query meta = (
  record {
    within = omega arith;
    how = record {
      reply = record { status = 200; body = Tagged (table_reply standard_rows); session = 0 };
      replies = refl;
      status = refl;
      session = refl;
      adds_it = refl;
      added = refl;
    };
  },
  (
    record {
      within = omega arith;
      how = record { reply = record { status = 200; body = Tagged (login_body 1); session = 1 }; replies = refl; status = refl; session = refl; adds_it = refl; added = refl };
    },
    (
      record {
        within = omega arith;
        how = record {
          reply = record { status = 200; body = Tagged (listing_body s.keep (after_login by) Items (mirror_look query meta 0)); session = 1 };
          replies = refl;
          status = refl;
          session = refl;
          adds_it = refl;
          added = refl;
        };
      },
      (
        record {
          within = omega arith;
          how = record { reply = record { status = 204; body = Nothing; session = 1 }; replies = refl; status = refl; session = refl; adds_it = refl; added = refl };
        },
        tt,
      ),
    ),
  ),
)

-- ---- the bytes

abbrev text_of : List ℕ → Option Query → Meta → List ℕ
text_of host query meta =
    request_text want.Codes host ++ (request_text want.Login host ++ (request_text (rows_want query meta) host ++ (request_text (want.Logout 1) host ++ [])))

text_read : (host : List ℕ) (query : Option Query) (meta : Meta) → CanBeAsked host (new_mirror query meta)
    → IsReading Listen (text_of host query meta) (reading (all_asks query meta) [] None)
text_read host query meta can =
    let logout = joined_before Listen (request_text (want.Logout 1) host) [] (open_ask Listen (want.Logout 1) ∷ []) [] (reading [] [] None)
    (logout_back Listen host 1 can.host_is (omega arith)).joins (no_bytes_read Listen) in
    let rows = joined_before Listen (request_text (rows_want query meta) host) (request_text (want.Logout 1) host ++ []) (open_ask Listen (rows_want query meta) ∷ []) []
    (reading (open_ask Listen (want.Logout 1) ∷ []) [] None) (rows_back Listen host (new_mirror query meta) 1 0 can (omega arith) (omega arith)).joins logout in
    let login = joined_before Listen (request_text want.Login host) (request_text (rows_want query meta) host ++ (request_text (want.Logout 1) host ++ []))
    (open_ask Listen want.Login ∷ []) [] (reading (open_ask Listen (rows_want query meta) ∷ open_ask Listen (want.Logout 1) ∷ []) [] None)
    (login_back Listen host can.host_is).joins rows in
    joined_before Listen (request_text want.Codes host) (request_text want.Login host ++ (request_text (rows_want query meta) host ++ (request_text (want.Logout 1) host ++ [])))
    (open_ask Listen want.Codes ∷ []) [] (reading (open_ask Listen want.Login ∷ open_ask Listen (rows_want query meta) ∷ open_ask Listen (want.Logout 1) ∷ []) [] None)
    (codes_back Listen host can.host_is).joins login

-- one exchange whose reply has a tag
abbrev with_tag : List ℕ → Tree → Exchange
with_tag request tag = record {
  request = request;
  message = record { head = reply_head_text 200 Dmap (length (spelling tag)) false; body = spelling tag };
  answer = (200, spelling tag);
}

abbrev rows_tag : Settings → ℕ → Option Query → Meta → Tree
rows_tag s by query meta = listing_body s.keep (after_login by) Items (mirror_look query meta 0)

abbrev all_exchanges : List ℕ → Settings → ℕ → Option Query → Meta → List Exchange
all_exchanges host s by query meta =
    with_tag (request_text want.Codes host) (table_reply standard_rows) ∷ with_tag (request_text want.Login host) (login_body 1)
    ∷ with_tag (request_text (rows_want query meta) host) (rows_tag s by query meta)
    ∷ record { request = request_text (want.Logout 1) host; message = record { head = reply_head_text 204 NoBody 0 false; body = [] }; answer = (204, []) } ∷ []

are_answered : (host : List ℕ) (s : Settings) (by : ℕ) (query : Option Query) (meta : Meta) → AreAnswered (all_exchanges host s by query meta)
are_answered host s by query meta = (
  tag_read (spelling (table_reply standard_rows)) false (few standard_rows (table_reply standard_rows) table_tag),
  (
    tag_read (spelling (login_body 1)) false (few standard_rows (login_body 1) (login_tag [] none_whole)),
    (
      tag_read (spelling (rows_tag s by query meta)) false
          (few standard_rows (rows_tag s by query meta) (listing_body_read s.keep (after_login by) Items query meta 0 (login_whole by))),
      (empty_read false, tt),
    ),
  ),
)

-- ---- the walk

abbrev first_listing : Settings → ℕ → Option Query → Meta → Listing
first_listing s by query meta = listing s.keep (batches (after_login by)) Items (mirror_look query meta 0)

abbrev known : Known
known = record { session = 1; rows = standard_rows }

tells_listing : (s : Settings) (by : ℕ) (query : Option Query) (meta : Meta)
    → TellsListing standard_rows (new_mirror query meta) (200, spelling (rows_tag s by query meta)) (first_listing s by query meta)
tells_listing s by query meta = record {
  tag = rows_tag s by query meta;
  told = (refl, listing_body_read s.keep (after_login by) Items query meta 0 (login_whole by));
  is = answer_is_listing s.keep (batches (after_login by)) Items query meta 0;
  later = omega arith;
}

path : (host : List ℕ) (s : Settings) (by : ℕ) (query : Option Query) (meta : Meta)
    → Path host (new_mirror query meta) 1 Begun (all_exchanges host s by query meta) (Closed known (first_listing s by query meta ∷ []))
path host s by query meta = (
  refl,
  (
    Learned standard_rows,
    (standard_rows, (table_reply standard_rows, (refl, table_tag), standard_back), refl),
    (
      refl,
      (
        Asking known [],
        (1, (login_body 1, (refl, login_tag [] none_whole), refl), refl),
        (
          refl,
          (
            Holding known (first_listing s by query meta ∷ []),
            (first_listing s by query meta, tells_listing s by query meta, refl),
            (refl, (Closed known (first_listing s by query meta ∷ []), (refl, refl), refl)),
          ),
        ),
      ),
    ),
  ),
)

go_on : (by : ℕ) (query : Option Query) (meta : Meta) → GoOn 65536 (at_end by) 1 (all_asks query meta) all_served
go_on by query meta = (refl, (refl, (refl, (refl, tt))))

-- the responses are the messages that the client reads
same_bytes : (host : List ℕ) (s : Settings) (by : ℕ) (query : Option Query) (meta : Meta)
    → messages (all_exchanges host s by query meta) ≡ replies s 65536 (at_end by) (all_asks query meta) all_served
same_bytes host s by query meta = refl

served_once : (host : List ℕ) (s : Settings) (by : ℕ) (query : Option Query) (meta : Meta) (output : List ℕ) → output ≡ replies s 65536 (at_end by) (all_asks query meta) all_served
    → IsReading Listen (text_of host query meta) (reading (all_asks query meta) [] None) → ServedLink s by 65536 Listen (at_end by) (text_of host query meta) output
served_once host s by query meta output is read = record {
  asks = all_asks query meta;
  rest = [];
  served = all_served;
  end = closed;
  joins = read.joins;
  are_served = are_served s by query meta;
  rises = (omega arith, (omega arith, (omega arith, (omega arith, omega arith))));
  how = inr (record { goes_on = go_on by query meta; reads = read }, refl, is);
}

answered_once : (host : List ℕ) (s : Settings) (by : ℕ) (query : Option Query) (meta : Meta) (output : List ℕ) → output ≡ replies s 65536 (at_end by) (all_asks query meta) all_served
    → IsReading Listen (text_of host query meta) (reading (all_asks query meta) [] None) → AnsweredAll s by 65536 Listen (at_end by) (text_of host query meta) output
answered_once host s by query meta output is read = record {
  asks = all_asks query meta;
  served = all_served;
  joins = read.joins;
  are_served = are_served s by query meta;
  rises = (omega arith, (omega arith, (omega arith, (omega arith, omega arith))));
  granted = (inl refl, (inl refl, (inl refl, (inr refl, tt))));
  written = is;
}

followed_once : (host : List ℕ) (s : Settings) (by : ℕ) (query : Option Query) (meta : Meta) (output : List ℕ) → output ≡ messages (all_exchanges host s by query meta)
    → Followed host (new_mirror query meta) 1 (place (Some []) (Some output) nothing_read) (Some (text_of host query meta))
    (all_applied (new_mirror query meta).held (first_listing s by query meta ∷ [])) (with_listings (new_mirror query meta) (first_listing s by query meta ∷ []))
followed_once host s by query meta output is = record {
  known = known;
  listings = first_listing s by query meta ∷ [];
  there = record { taken = Some (text_of host query meta); owed = Some []; used = 0 + length (messages (all_exchanges host s by query meta)) };
  walks = record {
    exchanges = all_exchanges host s by query meta;
    path = path host s by query meta;
    went = record {
      written = refl;
      answered = are_answered host s by query meta;
      read = is ∙ sym (append-nil (messages (all_exchanges host s by query meta)));
      counted = refl;
    };
  };
  written = refl;
  one_each = refl;
  holds = refl;
  told = refl;
}

pub mirrors_are_served : MirrorsAreServed
mirrors_are_served host s by query meta can =
    let read = text_read host query meta can in
    record {
      h = at_end by;
      input = text_of host query meta;
      output = messages (all_exchanges host s by query meta);
      applied = all_applied (new_mirror query meta).held (first_listing s by query meta ∷ []);
      now = with_listings (new_mirror query meta) (first_listing s by query meta ∷ []);
      whole = end_whole by;
      served = served_once host s by query meta (messages (all_exchanges host s by query meta)) (same_bytes host s by query meta) read;
      answered = answered_once host s by query meta (messages (all_exchanges host s by query meta)) (same_bytes host s by query meta) read;
      followed = followed_once host s by query meta (messages (all_exchanges host s by query meta)) refl;
    }
