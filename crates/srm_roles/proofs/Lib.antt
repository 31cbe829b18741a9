mod Listening
