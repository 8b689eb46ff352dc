use Rattle.irq_feed.proofs.queue.FeedQueue.of.Given as goal

abbrev pub ghosts-tell_feeds : goal.ghosts-tell_feeds
ghosts-tell_feeds a = record { feeds = a._feeds.now }
