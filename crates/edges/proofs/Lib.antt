-- The edges, proved.
mod Shown
-- The edge of VIEW-CHANGEs.
mod Votes
